-- What judging hands on: the places of the bytes of all sectors that were judged good, or the reply for the first bad one.
-- Rests on the laws of unpacking (Base.Unpacked of sector_rules) and of the lowest number that passes a test.
use Rattle.std.specs.Prelude.{None, Ok, Err, true, false, cond, List, ◌≡◌, refl, ℕ, ◌+◌, ◌≤◌, ◌<◌, eqb, length, get_or, set}
use Rattle.std.proofs.Math.Option.{Option, none, some}
use Rattle.std.proofs.Common.{sym, ◌∙◌, arith, get_or-set_same, get_or-set_other}
use Rattle.std.proofs.Math.Path.{ap}
use borrow.Author.Tests.{lt-ltb, eq-eqb, ne_eqb, eqb-false}
use Rattle.laws.specs.Lists.{tab}
use Rattle.laws.specs.Laws.Cases.{by_equal}
use Rattle.laws.specs.Laws.Lowest.{lowest_none, lowest_some}
use Rattle.sector_rules.specs.declared.Reply.{Reply}
use Rattle.sector_rules.specs.declared.SectorFault.{SectorFault}
use Rattle.sector_rules.specs.declared.SectorFault.TheVariants.{Missing, Repeated, NoField, Damaged}
use Rattle.sector_rules.specs.Search.{Sector}
use Rattle.sector_rules.specs.Replies.{done, unless}
use Rattle.sector_rules.specs.Geometry.{all_sectors, image_bytes}
use Rattle.sector_rules.specs.Hfe.{hfe_header_fault, table_fault}
use Rattle.sector_rules.specs.Unpacked.{sector_at, is_bad, sector_reply, first_bad, sectors_reply, first_code_refusal, least_hfe, unpack_reply, unpacked_byte}
use Rattle.sector_rules.proofs.Laws.Base.Unpacked.{good_is, bad_number_lem, codes_reply, sound_reply}
use Rattle.sector_rules.specs.Unpacked.{place_of}

-- the sectors below n are good, and the places of their bytes are noted
pub record Noted (h places : List ℕ) (n : ℕ) : Type 0 where
  pub each : (m : ℕ) → m < n → sector_at h m ≡ Ok (get_or places m 0)

-- the sectors below n are judged: all are good, or the reply is that of the first bad one
pub record SectorsJudged (h places : List ℕ) (n : ℕ) (r : Reply) : Type 0 where
  pub good : r.number ≡ 0 → Noted h places n
  pub bad : (r.number ≡ 0 → ⊥) → r ≡ sectors_reply h

-- all sectors are judged
pub record AllJudged (h places : List ℕ) (r : Reply) : Type 0 where
  pub answer : r ≡ sectors_reply h
  pub good : r.number ≡ 0 → Noted h places all_sectors

-- the reply, and the image: written where the reply is 0
pub record SectorsUnpacked (h p q : List ℕ) (r : Reply) : Type 0 where
  pub answer : r ≡ sectors_reply h
  pub after : q ≡ cond (eqb (sectors_reply h).number 0) (tab (unpacked_byte h) image_bytes) p

-- the same where codes are judged before the sectors
pub record SidesUnpacked (h p q : List ℕ) (r : Reply) : Type 0 where
  pub answer : r ≡ unless (first_code_refusal h) (λ (x : Reply). x) (sectors_reply h)
  pub after : q ≡ cond (eqb r.number 0) (tab (unpacked_byte h) image_bytes) p

-- ---- sector by sector

-- a sector that gives no bytes is bad
pub fault_is_bad : (f : SectorFault) → is_bad (Err f) ≡ true
fault_is_bad Missing = refl
fault_is_bad Repeated = refl
fault_is_bad NoField = refl
fault_is_bad Damaged = refl

module _ (h places : List ℕ) where
  -- before the first sector nothing is noted
  pub noted_none : Noted h places 0
  noted_none = record { each = λ m l. absurd (omega arith) }

  module _ (m : ℕ) (noted : Noted h places m) (x : Sector) (is : x ≡ sector_at h m) where
    -- one more sector that is good, with the place of its bytes noted
    pub noted_more : m < length places → is_bad x ≡ false → (n : ℕ) → n ≡ m + 1 → Noted h (set places m (place_of x)) n
    noted_more l e n q =
        record {
          each =
              λ k b.
              by_equal k m
              (λ (z : k ≡ m). rw z (sym is ∙ good_is x e ∙ ap Ok (sym (get_or-set_same places m (place_of x) 0 l))))
              (λ (z : k ≡ m → ⊥). noted.each k (omega arith) ∙ ap Ok (sym (get_or-set_other places m k (place_of x) 0 z)));
        }

    -- the first bad one
    first_reply : m < all_sectors → is_bad x ≡ true → sectors_reply h ≡ sector_reply m x
    unfolding sectors_reply first_bad
    first_reply l e =
        rw (
          lowest_some (λ (k : ℕ). is_bad (sector_at h k)) all_sectors m l (λ k b. ap is_bad (noted.each k b)) (ap is_bad (sym is)
              ∙ e),
          lt-ltb m all_sectors l,
          is,
        )

    -- judging ends at a bad sector with that sector's reply
    pub judged_stop : m < all_sectors → is_bad x ≡ true → (n : ℕ) (r : Reply) → r ≡ sector_reply m x → SectorsJudged h places n r
    judged_stop l e n r q =
        record {
          good = λ z. absurd (eqb-false (sector_reply m x).number 0 (bad_number_lem m x e) (ap (λ (y : Reply). y.number) (sym q) ∙ z));
          bad = λ z. q ∙ sym (first_reply l e);
        }

  -- where none of the sectors below n was bad, they are judged with the reply done
  pub judged_good : (n : ℕ) → Noted h places n → (r : Reply) → r ≡ done → SectorsJudged h places n r
  judged_good n noted r e = record { good = λ z. noted; bad = λ z. absurd (z (ap (λ (y : Reply). y.number) e)) }

  -- where no sector was bad, all are judged with the reply done
  pub all_good : Noted h places all_sectors → (r : Reply) → r ≡ done → AllJudged h places r
  unfolding sectors_reply first_bad
  all_good noted r e =
      record {
        answer = e ∙ rw (lowest_none (λ (m : ℕ). is_bad (sector_at h m)) all_sectors (λ k l. ap is_bad (noted.each k l)));
        good = λ z. noted;
      }

-- ---- the image afterwards

module _ (h p q : List ℕ) (r : Reply) (is : r ≡ sectors_reply h) where
  -- where the reply is a refusal, the image is as it was
  pub refused_after : (r.number ≡ 0 → ⊥) → p ≡ q → SectorsUnpacked h p q r
  refused_after n e = record { answer = is; after = rw (← is, ne_eqb r.number 0 n) (sym e) }

  -- where the reply is 0, the image is the one unpacked
  pub written_after : r.number ≡ 0 → q ≡ tab (unpacked_byte h) image_bytes → SectorsUnpacked h p q r
  written_after z e = record { answer = is; after = rw (← is, eq-eqb r.number 0 z) e }

-- ---- codes before sectors

module _ (h p q : List ℕ) (r : Reply) where
  -- a wrong code: its refusal, and the image is as it was
  pub codes_after : first_code_refusal h ≡ some r → (r.number ≡ 0 → ⊥) → q ≡ p → SidesUnpacked h p q r
  unfolding unless
  codes_after c n e = record { answer = rw c; after = e ∙ rw (ne_eqb r.number 0 n) }

  -- no wrong code: the sectors decide
  pub sectors_after : first_code_refusal h ≡ none → SectorsUnpacked h p q r → SidesUnpacked h p q r
  unfolding unless
  sectors_after c x = record { answer = x.answer ∙ rw c; after = rw x.answer x.after }

-- where header and table are right, the codes decide, and then the sectors
pub sides_reply : (h : List ℕ) (n : ℕ) → least_hfe ≤ length h → n ≡ image_bytes → hfe_header_fault h ≡ None → table_fault h ≡ None
    → unpack_reply h n ≡ unless (first_code_refusal h) (λ (x : Reply). x) (sectors_reply h)
unfolding unless
sides_reply h n l e f g = by (first_code_refusal h) refl
  where
    by : (o : Option Reply) → first_code_refusal h ≡ o → unpack_reply h n ≡ unless (first_code_refusal h) (λ (x : Reply). x) (sectors_reply h)
    by none c = sound_reply h n l e f g c ∙ rw c
    by (some r) c = codes_reply h n l e f g r c ∙ rw c
