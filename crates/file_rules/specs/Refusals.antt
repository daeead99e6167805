-- refusals_keep (§7.19): a call that is refused changes no lent byte, for each entry point that is lent bytes to write, in the terms of its contract. Of a
-- batch it is said of 1 and 20: where an item is refused those before it stand.
-- `place`, `check` and the first track are lent none. List, read and check are lent the image to read only, as pack is, and unpack the HFE image.
-- Assumes nothing: these are definitions. The proof is `refusals_keep` in Laws/Theorem/Refusals.antt.
use Rattle.std.specs.Prelude.{◌≡◌, List, ◌≢◌, ◌⊎◌, ℕ, length}
use Rattle.sector_rules.specs.declared.Reply.{Reply}
use Rattle.sector_rules.specs.Packed.{pack_reply, pack_hfe}
use Rattle.sector_rules.specs.Rewritten.{rewrite_reply, rewrite_hfe}
use Rattle.sector_rules.specs.Unpacked.{unpack_reply, unpack_image}
use Rattle.file_rules.specs.Arguments.{FormatArguments}
use Rattle.file_rules.specs.Batch.{batch}
use Rattle.file_rules.specs.Calls.{format, list, read, add, remove}

-- every number but 0 is a refusal (§7.17)
abbrev pub Refuses : Reply → Type 0
Refuses r = r.number ≢ 0

-- refusals_keep, for lists of any length and any numbers: nothing is asked of a lent image, buffer, name or file (§7.19)
pub record RefusalsKeep : Type 0 where
  pub unpack_keeps : (hfe image : List ℕ) → Refuses (unpack_reply hfe (length image)) → unpack_image hfe image ≡ image
  pub pack_keeps : (image hfe : List ℕ) → Refuses (pack_reply (length image) (length hfe)) → pack_hfe image hfe ≡ hfe
  pub rewrite_keeps : (hfe : List ℕ) (t s r : ℕ) (content : List ℕ) → Refuses (rewrite_reply hfe t s r content) → rewrite_hfe hfe t s r content ≡ hfe
  pub format_keeps : (image : List ℕ) (args : FormatArguments) → Refuses (format image args).answer → (format image args).image ≡ image
  pub list_keeps : (image buffer : List ℕ) → Refuses (list image buffer).answer → (list image buffer).buffer ≡ buffer
  pub read_keeps : (image name buffer : List ℕ) → Refuses (read image name buffer).answer → (read image name buffer).buffer ≡ buffer
  pub add_keeps : (image name : List ℕ) (date : ℕ) (content : List ℕ) → Refuses (add image name date content).answer
      → (add image name date content).image ≡ image
  pub remove_keeps : (image name : List ℕ) → Refuses (remove image name).answer → (remove image name).image ≡ image
  -- a batch that is refused before an item is tried, with 1 or 20; what it leaves where an item is refused says batch_is_calls (§8.19)
  pub batch_keeps : (image list : List ℕ) → ((batch image list).answer.number ≡ 1) ⊎ ((batch image list).answer.number ≡ 20) → (batch image list).image ≡ image
