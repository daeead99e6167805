-- Stage 6: the two versions of HFE images. Sides that agree but for their first cells (Alike), the letters as cells (Letters), a version 3 image without codes
-- (Plain), the replies for letters and wrong codes (Replies), and sectors by the cells of their sides (Sectors).
pub mod Alike
pub mod Letters
pub mod Plain
pub mod Replies
pub mod Sectors
