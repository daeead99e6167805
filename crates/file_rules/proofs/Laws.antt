-- Laws of the definitions that the promises rest on. No statement outside cites them.
pub mod Base
pub mod OnAnyDisk
pub mod InnerModel
pub mod OnImages
pub mod InModel
pub mod FilesLeft
pub mod Theorem
pub mod Values
