-- Laws that only proofs of code need. Search (Indexed, BySector, Scanned), Sides (SideGives, ImageSideGives, placed_byte) and Judged (Noted, Judged, AllJudged,
-- SectorsUnpacked) also define what contracts of functions cite, and so do Runs (run_bytes, run_items, items_byte, run_byte, tracks_byte) and the
-- files of Rewriting.
pub mod RangeTests
pub mod Reading
pub mod Unpacking
pub mod Packing
pub mod Rewriting
