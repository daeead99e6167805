-- What holds while bytes of an image are exchanged for a look at the result: the way back, and both tables right.
-- Rests on the laws of exchanged bytes (Changed) and of faults.
use Rattle.std.specs.Prelude.{Some, None, Bool, ◌&&◌, List, ◌≡◌, ℕ, ◌+◌, ◌-◌, ◌*◌, ◌<◌, length}
use Rattle.std.proofs.Math.Bool.{true, false, not}
use Rattle.std.proofs.Math.Path.{refl, ap}
use Rattle.std.proofs.Common.{sym, ◌∙◌, arith}
use Rattle.laws.specs.Below.{all}
use Rattle.std.specs.Option.{is_some as found}
use Rattle.laws.specs.Options.{is_some, or_else}
use Rattle.laws.specs.Laws.All.{all_at, all_is}
use Rattle.laws.specs.Laws.Cases.{by_test, by_order}
use Rattle.laws.specs.Laws.Tests.{true≢false, and_false_left}
use Rattle.sector_rules.specs.Faults.{Fault}
use Rattle.sector_rules.specs.Faults.{refusal_at}
use Rattle.sector_rules.specs.Geometry.{tracks, sides, sectors, all_sectors}
use Rattle.sector_rules.specs.Hfe.{version1_fault, table_fault}
use Rattle.sector_rules.specs.Rewritten.{hfe_refusal, sector_right, result_right}
use Rattle.sector_rules.proofs.Laws.Base.Versions.{version1_plain}
use Rattle.sectors.specs.declared.Exchange.{Exchange}
use Rattle.sectors.specs.declared.Trial.{Trial}
use Rattle.sectors.specs.Laws.Unpacking.Sides.{PlainImage}
use Rattle.sectors.specs.Laws.Rewriting.Changed.{SideBytesFit, Taken, changed, changed_back}

-- the image with the new bytes
abbrev pub exchanged : List ℕ → Exchange → List ℕ
exchanged h x = changed h x.bytes x.new

-- an image whose sides are read as they are stored, and the bytes of it that are exchanged
pub record Exchangeable (h : List ℕ) (x : Exchange) : Type 0 where
  pub fits : SideBytesFit x.bytes (length h)
  pub taken : Taken h x.bytes x.old
  pub plain : PlainImage h

-- the same, where the sides are read so with the new bytes too
pub record Exchanges (h : List ℕ) (x : Exchange) : Type 0 where
  pub exchange : Exchangeable h x
  pub after : PlainImage (exchanged h x)

-- whether image sector q is as a trial asks
abbrev pub tried : List ℕ → Trial → ℕ → Bool
tried h t q = sector_right h (exchanged h t.exchange) t.sector t.content.now q

module _ (h : List ℕ) (x : Exchange) (e : Exchangeable h x) where
  -- with the old bytes the image is what it was
  pub goes_back : (g : List ℕ) → g ≡ exchanged h x → changed g x.bytes x.old ≡ h
  goes_back g is = rw is (changed_back h x.bytes x.old x.new e.taken)

-- ---- header and table

module _ (g : List ℕ) where
  -- with a wrong header 2 is given
  pub header_wrong : found (version1_fault g) ≡ true → not (is_some (hfe_refusal g)) ≡ false
  unfolding is_some or_else
  header_wrong e = given (version1_fault g) (table_fault g) e
    where
      given : (a b : Fault) → found a ≡ true → not (is_some (or_else (refusal_at 2 a) (refusal_at 3 b))) ≡ false
      given (Some o) b z = refl
      given None b z = true≢false false z refl

  -- with a right one the table decides
  pub table_decides : found (version1_fault g) ≡ false → (r : Bool) → found (table_fault g) ≡ not r → r ≡ not (is_some (hfe_refusal g))
  unfolding is_some or_else
  table_decides e r q = given (version1_fault g) (table_fault g) e r q
    where
      given : (a b : Fault) → found a ≡ false → (r : Bool) → found b ≡ not r → r ≡ not (is_some (or_else (refusal_at 2 a) (refusal_at 3 b)))
      given (Some o) b z r y = true≢false true refl z
      given None (Some o) z true y = y
      given None (Some o) z false y = refl
      given None None z true y = refl
      given None None z false y = y

  -- where neither is given the sides are read as they are stored
  pub sound_plain : not (is_some (hfe_refusal g)) ≡ true → PlainImage g
  unfolding is_some or_else
  sound_plain e =
      record {
        table = second (version1_fault g) (table_fault g) e;
        version = version1_plain g (first (version1_fault g) (table_fault g) e);
      }
    where
      first : (a b : Fault) → not (is_some (or_else (refusal_at 2 a) (refusal_at 3 b))) ≡ true → a ≡ None
      first (Some o) b z = true≢false false z refl
      first None b z = refl

      second : (a b : Fault) → not (is_some (or_else (refusal_at 2 a) (refusal_at 3 b))) ≡ true → b ≡ None
      second (Some o) b z = true≢false false z refl
      second None (Some o) z = true≢false false z refl
      second None None z = refl

-- ---- all sectors, side by side

module _ (f : ℕ → Bool) where
  -- the sectors of the sides below n, and those of the n-th
  pub sides_more : (n : ℕ) → all f (sectors * n) ≡ true → all (λ (k : ℕ). f (sectors * n + k)) sectors ≡ true → all f (sectors * (n + 1)) ≡ true
  sides_more n a b = all_is f (sectors * (n + 1)) each
    where
      each : (q : ℕ) → q < sectors * (n + 1) → f q ≡ true
      each q l =
          by_order q (sectors * n) (all_at f (sectors * n) a q)
          (λ m.
          let z : sectors * n + (q - sectors * n) ≡ q = omega arith in
          ap f (sym z) ∙ all_at (λ (k : ℕ). f (sectors * n + k)) sectors b (q - sectors * n) (omega arith))

  -- where a sector of the n-th side fails, not all pass
  pub sides_fail : (n : ℕ) → n < tracks * sides → all (λ (k : ℕ). f (sectors * n + k)) sectors ≡ false → all f all_sectors ≡ false
  sides_fail n l e =
      by_test (all f all_sectors)
      (λ t. true≢false (all (λ (k : ℕ). f (sectors * n + k)) sectors) (all_is _ sectors (λ k b. all_at f all_sectors t (sectors * n + k) (omega arith))) e)
      (λ t. t)

-- ---- the whole result

module _ (h g : List ℕ) (m : ℕ) (d : List ℕ) where
  -- a result with a wrong header or table does not read as it must
  pub result_wrong : not (is_some (hfe_refusal g)) ≡ false → result_right h g m d ≡ false
  unfolding result_right
  result_wrong e = and_false_left (all (sector_right h g m d) all_sectors) e

  -- with both right its sectors decide
  pub result_sectors : not (is_some (hfe_refusal g)) ≡ true → result_right h g m d ≡ all (sector_right h g m d) all_sectors
  unfolding result_right
  result_sectors e = ap (λ (b : Bool). b && all (sector_right h g m d) all_sectors) e
