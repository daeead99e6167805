-- The promises of this crate, each stated and proved in the files that its line names, and passed on with what it promises.
-- Assumes nothing.

-- refusals_keep: a call that is refused changes no lent byte, for every entry point of the library that is lent bytes to write; a batch that is refused with 1
-- or 20. Refusals.antt
pub use Rattle.file_rules.proofs.Laws.Theorem.Refusals.{refusals_keep}
-- batch_is_calls: a batch gives the reply and the image of the single calls of its items, made in turn until one is refused. BatchIsCalls.antt
pub use Rattle.file_rules.proofs.Laws.Theorem.BatchIsCalls.{batch_is_calls}
-- names_equal: two names are equal if and only if they have the same length and, capitals counting as small letters, the same bytes; this is an equivalence;
-- all 256 bytes as they are compared. NamesEqual.antt
pub use Rattle.file_rules.proofs.Laws.Base.Names.{names_equal}
-- items_read: the list of a batch is read as items if and only if it is the bytes of these items one after the other; if it is not, the wrong item stands after
-- the bytes of some items, or of none, where no item's bytes begin. item_values: lists by their bytes, and what they are read as. ItemsRead.antt
pub use Rattle.file_rules.proofs.Laws.Theorem.ItemsRead.{items_read}
pub use Rattle.file_rules.proofs.Laws.Base.ItemValues.{item_values}
-- tails_unread: block images that differ at most in tails of free records get the same answers, and differ at most in tails afterwards. FreeTails.antt
pub use Rattle.file_rules.proofs.Laws.Theorem.TailsUnread.{tails_unread}
-- free_tails: a record is free by its first byte, in every count and for 9; what an add or a remove writes as each record and which it leaves, tails of free
-- records among them; no history makes another tail than FF FF. FreeTails.antt
pub use Rattle.file_rules.proofs.Laws.Theorem.FreeTails.{free_tails}
-- bad_blocks: a record is bad if it is FE FF FF; the good word and 19, in which order; what a format makes of its list and every history leaves of it; bad
-- blocks and the good word stay through adds and removes. BadBlocks.antt
pub use Rattle.file_rules.proofs.Laws.Theorem.BadBlocks.{bad_blocks}
-- history: for every history of calls after a format, each reply, each result buffer and the whole final image are the model's. History.antt
pub use Rattle.file_rules.proofs.Laws.Theorem.History.{history}
-- history_check: the check passes after every history. History.antt
pub use Rattle.file_rules.proofs.Laws.Theorem.History.{history_check}
-- calls_made: each call of a history is the call of its name, for any image. History.antt
pub use Rattle.file_rules.proofs.Laws.Theorem.History.{calls_made}
-- every_byte: byte i of an image is the byte of its disk at a block and offset, so that history, which speaks of these, speaks of every byte. History.antt
pub use Rattle.file_rules.proofs.Laws.Theorem.History.{every_byte}
-- disk_header_values: the header of a formatted disk as a row of bytes, and for each byte of it what 8 names where it is one more or one less.
-- HeaderValues.antt
pub use Rattle.file_rules.proofs.Laws.Values.HeaderValues.{disk_header_values}
-- check_values: the places that 9 and 10 name, and 19 with its order, of formatted disks with one record of the map or the good word changed. CheckValues.antt
pub use Rattle.file_rules.proofs.Laws.Values.CheckValues.{check_values}
-- first_track_values: judging the first track is judging the image that it begins by 8, 9, 19 and 11; what it gives of a formatted disk. TrackValues.antt
pub use Rattle.file_rules.proofs.Laws.Values.TrackValues.{first_track_values}
-- values_to_check: eleven placements, and a file's map record; record_values: a map record of each kind by its bytes, read and written; entry_values: a
-- directory entry so. Values.antt
pub use Rattle.file_rules.proofs.Values.{values_to_check, record_values, entry_values}
