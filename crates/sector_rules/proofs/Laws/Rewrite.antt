-- Stage 5: rewriting one sector. The image with other bytes on a side, the place of the data, the cells after, what is judged; then the statements.
pub mod Base
pub mod Untouched
pub mod Place
pub mod After
pub mod Judged
pub mod Replies
pub mod Reads
pub mod PackedCells
pub mod PackedImage
pub mod Packs
