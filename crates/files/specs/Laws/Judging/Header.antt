-- The header's fields as the code judges them, and refusal 8.
-- Rests on the first bytes of block 0 (file_rules, Laws.Base.Disk).
use Rattle.std.specs.Prelude.{Some, None, ◌≡◌, Bool, ◌&&◌, List, ℕ, ◌+◌, ◌≤◌, length, get_or}
use Rattle.std.proofs.Common.{sym, ap, ap₂, ◌∙◌, arith}
use Rattle.std.proofs.Math.Option.{none, some}
use Rattle.laws.specs.Lists.{same, bytes_are, stands_at}
use Rattle.laws.specs.Laws.Tests.{le_true}
use Rattle.laws.specs.Laws.Tab.{tab_ext}
use Rattle.sector_rules.specs.Faults.{Fault}
use Rattle.sector_rules.specs.Replies.{reply_with}
use Rattle.sector_rules.specs.Faults.{wrong_at, refusal_at}
use Rattle.sector_rules.specs.Geometry.{sector_bytes}
use Rattle.file_rules.specs.Disk.{Disk, disk_of}
use Rattle.file_rules.proofs.Laws.Base.Disk.{first_byte}
use Rattle.file_rules.specs.Check.{disk_header_fault, refusal8}

-- ---- the header

bytes_stand : (l : List ℕ) (o : ℕ) (xs : List ℕ) → sector_bytes ≤ length l → o + length xs ≤ sector_bytes → stands_at l o xs ≡ bytes_are (disk_of l 0) o xs
unfolding stands_at bytes_are
bytes_stand l o xs h k =
    ap₂ (λ (x : Bool) (y : List ℕ). x && same y xs)
    (le_true {a = o + length xs} {b = length l} (omega arith))
    (tab_ext (λ (i : ℕ). get_or l (o + i) 0) (λ (i : ℕ). disk_of l 0 (o + i)) (length xs) (λ i b. sym (first_byte l (o + i) (omega arith))))

-- a field of fixed bytes, as the code judges it
pub bytes_fault : (f : Fault) (right : Bool) (l : List ℕ) (o : ℕ) (xs : List ℕ) → sector_bytes ≤ length l → o + length xs ≤ sector_bytes
    → f ≡ wrong_at o right → right ≡ stands_at l o xs → f ≡ wrong_at o (bytes_are (disk_of l 0) o xs)
bytes_fault f right l o xs h k e q = e ∙ ap (wrong_at o) (q ∙ bytes_stand l o xs h k)

-- the same where the code has the bytes from a call
pub given_fault : (f : Fault) (right : Bool) (l : List ℕ) (o : ℕ) (given xs : List ℕ) → sector_bytes ≤ length l → o + length xs ≤ sector_bytes
    → f ≡ wrong_at o right → right ≡ stands_at l o given → given ≡ xs → f ≡ wrong_at o (bytes_are (disk_of l 0) o xs)
given_fault f right l o given xs h k e q z = bytes_fault f right l o xs h k e (q ∙ ap (stands_at l o) z)

-- ---- refusal 8

-- a header fault is refusal 8 at its field
pub refused_header : (d : Disk) (o : ℕ) → Some o ≡ disk_header_fault d → some (reply_with 8 o 0 0) ≡ refusal8 d
unfolding refusal8
refused_header d o e = ap (refusal_at 8) e

-- a header without fault passes 8
pub passed_header : (d : Disk) → None ≡ disk_header_fault d → none ≡ refusal8 d
unfolding refusal8
passed_header d e = ap (refusal_at 8) e
