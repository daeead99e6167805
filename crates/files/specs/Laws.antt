-- Laws that only proofs of code need. Some also define what contracts of private functions cite: the image of a sound disk (SoundImage, NotSound), the tie of
-- a table (MapLoaded, Located, Chained, Tallied, HashesNoted, PartsAt, InStep) or of a part of a call (Gave, Walked) to the definitions.
pub mod Loading
pub mod Judging
pub mod Writing
pub mod Calling
