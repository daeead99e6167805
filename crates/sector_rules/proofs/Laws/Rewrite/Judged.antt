-- The replies of rewriting in their order, and what reply 0 says of how it came: the arguments, header, table and result are right, the sector has a field.
-- Rests on the laws of tests.
use Rattle.std.specs.Prelude.{Some, None, Ok, Err, true, false, cond, ◌&&◌, List, ◌≡◌, refl, ◌≢◌, leb, ltb, eqb, length}
use Rattle.std.proofs.Math.Bool.{not}
use Rattle.std.proofs.lemmas.Bool.{false≢true}
use Rattle.std.proofs.Math.Option.{Option, none, some}
use Rattle.std.proofs.Math.Path.{sym}
use Rattle.std.proofs.Common.{ap, ◌∙◌}
use Prim.Native.Nat.{ℕ, ◌≤◌, ◌<◌}
use native.Mathlib.Omega.{arith}
use Rattle.laws.specs.Lists.{same}
use Rattle.laws.specs.Below.{all}
use Rattle.laws.specs.Options.{is_some, or_else}
use Rattle.laws.specs.Laws.Cases.{by_test, by_order, by_equal}
use Rattle.laws.specs.Laws.Tests.{lt_true, lt_false, eq_true, eq_false, true_lt, true_le, true_eq, true≢false, cond_true, cond_false, and_left}
use Rattle.laws.specs.Laws.Tests.{and_right, and_true}
use Rattle.laws.specs.Laws.All.{all_at, all_is}
use Rattle.laws.specs.Laws.Same.{same_eq, eq_same}
use Rattle.sector_rules.specs.Faults.{Fault}
use Rattle.sector_rules.specs.declared.Reply.{Reply}
use Rattle.sector_rules.specs.Search.{Sector}
use Rattle.sector_rules.specs.declared.SectorFault.TheVariants.{Missing, Repeated, NoField, Damaged}
use Rattle.sector_rules.specs.Replies.{reply_with, done, refusal, wrong_hfe, unless}
use Rattle.sector_rules.specs.Geometry.{tracks, sides, sectors, all_sectors, sector_bytes}
use Rattle.sector_rules.specs.Hfe.{version1_fault, table_fault, side_stream}
use Rattle.sector_rules.specs.Search.{sector_of}
use Rattle.sector_rules.specs.Unpacked.{track_of, side_of, r_of, least_hfe, sector_at, sector_bytes_at, sector_reply, is_bad}
use Rattle.sector_rules.specs.Packed.{image_sector_of}
use Rattle.sector_rules.specs.Rewritten.{rewritten, sector_number, same_sector, gives_data, sector_right, hfe_refusal, result_right, has_field}
use Rattle.sector_rules.specs.Rewritten.{rewrite_sector_reply, rewrite_arguments, rewrite_reply, rewrite_hfe}
use Rattle.sector_rules.specs.Rewriting.{ResultReads}
use Rattle.sector_rules.proofs.Laws.Base.Unpacked.{bad_number_lem}

-- ---- the replies, in order

module _ (h : List ℕ) (t s r : ℕ) (d : List ℕ) where
  -- an HFE image that is too short is refused with 1, 1
  pub rewrite_short : length h < least_hfe → rewrite_reply h t s r d ≡ wrong_hfe
  unfolding rewrite_reply
  rewrite_short l = cond_true _ _ (lt_true l)

  module _ (l : least_hfe ≤ length h) where
    -- wrong arguments are refused with 12
    pub rewrite_arguments_lem : rewrite_arguments t s r d ≡ false → rewrite_reply h t s r d ≡ refusal 12
    unfolding rewrite_reply
    rewrite_arguments_lem a = cond_false wrong_hfe _ (lt_false l) ∙ cond_false _ (refusal 12) a

    module _ (a : rewrite_arguments t s r d ≡ true) where
      rewrite_later : rewrite_reply h t s r d ≡ unless (hfe_refusal h) (λ (x : Reply). x) (rewrite_sector_reply h t s r d)
      unfolding rewrite_reply
      rewrite_later = cond_false wrong_hfe _ (lt_false l) ∙ cond_true _ (refusal 12) a

      -- an HFE image with a wrong header is refused with 2 and the offset
      pub rewrite_header : (o : ℕ) → version1_fault h ≡ Some o → rewrite_reply h t s r d ≡ reply_with 2 o 0 0
      unfolding unless or_else
      rewrite_header o f = rewrite_later ∙ rw f

      module _ (f : version1_fault h ≡ None) where
        -- an HFE image with a wrong table entry is refused with 3 and the track
        pub rewrite_table : (k : ℕ) → table_fault h ≡ Some k → rewrite_reply h t s r d ≡ reply_with 3 k 0 0
        unfolding unless or_else
        rewrite_table k g = rewrite_later ∙ rw (f, g)

        -- where header and table are right, the reply is that for the sector
        pub rewrite_sound : table_fault h ≡ None → rewrite_reply h t s r d ≡ rewrite_sector_reply h t s r d
        unfolding unless or_else
        rewrite_sound g = rewrite_later ∙ rw (f, g)

  -- a sector without a field gets the reply that it gives
  pub rewrite_field : has_field (sector_at h (image_sector_of t s r)) ≡ false
      → rewrite_sector_reply h t s r d ≡ sector_reply (image_sector_of t s r) (sector_at h (image_sector_of t s r))
  unfolding rewrite_sector_reply
  rewrite_field f = cond_false _ _ f

  module _ (f : has_field (sector_at h (image_sector_of t s r)) ≡ true) where
    -- a result that would not read as it must is refused with 17
    pub rewrite_wrong : result_right h (rewritten h t s r d) (image_sector_of t s r) d ≡ false → rewrite_sector_reply h t s r d ≡ refusal 17
    unfolding rewrite_sector_reply
    rewrite_wrong w = cond_true _ _ f ∙ cond_false _ _ w

    -- else the rewrite is done
    pub rewrite_done : result_right h (rewritten h t s r d) (image_sector_of t s r) d ≡ true → rewrite_sector_reply h t s r d ≡ done
    unfolding rewrite_sector_reply
    rewrite_done w = cond_true _ _ f ∙ cond_true _ _ w

  -- done, the image is the rewritten one
  pub rewrite_after : (rewrite_reply h t s r d).number ≡ 0 → rewrite_hfe h t s r d ≡ rewritten h t s r d
  unfolding rewrite_hfe
  rewrite_after e = cond_true (rewritten h t s r d) h (eq_true e)

  -- refused, it is the image as it was
  pub rewrite_kept : (rewrite_reply h t s r d).number ≢ 0 → rewrite_hfe h t s r d ≡ h
  unfolding rewrite_hfe
  rewrite_kept e = cond_false (rewritten h t s r d) h (eq_false e)

-- ---- what reply 0 says

-- what holds where a rewrite is done
pub record AcceptedRewrite (h : List ℕ) (t s r : ℕ) (d : List ℕ) : Type 0 where
  pub arguments : rewrite_arguments t s r d ≡ true
  pub header : version1_fault h ≡ None
  pub table : table_fault h ≡ None
  pub field : has_field (sector_at h (image_sector_of t s r)) ≡ true
  pub result : result_right h (rewritten h t s r d) (image_sector_of t s r) d ≡ true

-- a sector without a field is bad
no_field_bad : (x : Sector) → has_field x ≡ false → is_bad x ≡ true
no_field_bad (Ok p) e = sym e
no_field_bad (Err Missing) e = refl
no_field_bad (Err Repeated) e = refl
no_field_bad (Err NoField) e = refl
no_field_bad (Err Damaged) e = refl

module _ (h : List ℕ) (t s r : ℕ) (d : List ℕ) (e : (rewrite_reply h t s r d).number ≡ 0) where
  not_zero : (x : Reply) → rewrite_reply h t s r d ≡ x → eqb x.number 0 ≡ false → ⊥
  not_zero x p n = true≢false (eqb x.number 0) (eq_true (ap (λ (y : Reply). y.number) (sym p) ∙ e)) n

  module _ (l : least_hfe ≤ length h) (a : rewrite_arguments t s r d ≡ true) where
    sector_accepted : version1_fault h ≡ None → table_fault h ≡ None → AcceptedRewrite h t s r d
    sector_accepted f g =
        let m : ℕ = image_sector_of t s r in
        let p = rewrite_sound h t s r d l a f g in
        by_test (has_field (sector_at h m))
        (λ u. by_test (result_right h (rewritten h t s r d) m d)
        (λ w. record { arguments = a; header = f; table = g; field = u; result = w })
        (λ w. absurd (not_zero (refusal 17) (p ∙ rewrite_wrong h t s r d u w) refl)))
        (λ u. absurd
        (not_zero (sector_reply m (sector_at h m)) (p ∙ rewrite_field h t s r d u) (bad_number_lem m (sector_at h m) (no_field_bad (sector_at h m) u))))

    table_accepted : version1_fault h ≡ None → (g : Fault) → table_fault h ≡ g → AcceptedRewrite h t s r d
    table_accepted f (Some k) g = absurd (not_zero (reply_with 3 k 0 0) (rewrite_table h t s r d l a f k g) refl)
    table_accepted f None g = sector_accepted f g

    header_accepted : (f : Fault) → version1_fault h ≡ f → AcceptedRewrite h t s r d
    header_accepted (Some o) f = absurd (not_zero (reply_with 2 o 0 0) (rewrite_header h t s r d l a o f) refl)
    header_accepted None f = table_accepted f (table_fault h) refl

  -- where a rewrite is done, arguments, header, table and result are right, and the sector has a field
  pub rewrite_accepted : AcceptedRewrite h t s r d
  rewrite_accepted =
      by_order (length h) least_hfe
      (λ l. absurd (not_zero wrong_hfe (rewrite_short h t s r d l) refl))
      (λ l. by_test (rewrite_arguments t s r d) (λ a. header_accepted l a (version1_fault h) refl)
      (λ a. absurd (not_zero (refusal 12) (rewrite_arguments_lem h t s r d l a) refl)))

-- ---- the arguments

-- what right arguments say: a track, a side, an R and data of a sector
pub record Named (t s r : ℕ) (d : List ℕ) : Type 0 where
  pub track : t < tracks
  pub side : s < sides
  pub least : 1 ≤ r
  pub most : r ≤ sectors
  pub long : length d ≡ sector_bytes

module _ (t s r : ℕ) (d : List ℕ) where
  -- right arguments name a track, a side, an R and have the data of a sector
  pub arguments_named : rewrite_arguments t s r d ≡ true → Named t s r d
  arguments_named e =
      let e₄ = and_left (ltb t tracks && ltb s sides && leb 1 r && leb r sectors) (eqb (length d) sector_bytes) e in
      let e₃ = and_left (ltb t tracks && ltb s sides && leb 1 r) (leb r sectors) e₄ in
      let e₂ = and_left (ltb t tracks && ltb s sides) (leb 1 r) e₃ in
      record {
        track = true_lt (and_left (ltb t tracks) (ltb s sides) e₂);
        side = true_lt (and_right (ltb t tracks) (ltb s sides) e₂);
        least = true_le (and_right (ltb t tracks && ltb s sides) (leb 1 r) e₃);
        most = true_le (and_right (ltb t tracks && ltb s sides && leb 1 r) (leb r sectors) e₄);
        long = true_eq (and_right (ltb t tracks && ltb s sides && leb 1 r && leb r sectors) (eqb (length d) sector_bytes) e);
      }

module _ (t s r : ℕ) (ht : t < tracks) (hs : s < sides) (l : 1 ≤ r) (m : r ≤ sectors) where
  -- the image sector of a track, a side and an R is one of the 1,440
  pub named_within : image_sector_of t s r < all_sectors
  named_within = omega arith

  -- what it gives is what sector R of that track and side gives
  pub named_sector : (h : List ℕ) → sector_at h (image_sector_of t s r) ≡ sector_of (side_stream h t s) t s r
  unfolding sector_at
  named_sector h =
      let q : ℕ = image_sector_of t s r in
      let a : track_of q ≡ t = omega arith in
      let b : side_of q ≡ s = omega arith in
      let c : r_of q ≡ r = omega arith in
      rw (a, b, c)

-- ---- the result

-- the reply for a sector by its number
reply_by : ℕ → ℕ → Reply
reply_by q n = cond (eqb n 0) done (reply_with n (track_of q) (side_of q) (r_of q))

by_number : (q : ℕ) (x : Sector) → sector_reply q x ≡ reply_by q (sector_reply q x).number
unfolding reply_by
by_number q (Ok p) = refl
by_number q (Err Missing) = refl
by_number q (Err Repeated) = refl
by_number q (Err NoField) = refl
by_number q (Err Damaged) = refl

-- two sectors that give the same number get the same reply
pub number_reply : (q : ℕ) (x y : Sector) → (sector_reply q x).number ≡ (sector_reply q y).number → sector_reply q x ≡ sector_reply q y
number_reply q x y e = by_number q x ∙ ap (reply_by q) e ∙ sym (by_number q y)

none_some : (o : Option Reply) → not (is_some o) ≡ true → o ≡ none
unfolding is_some
none_some none e = refl
none_some (some x) e = absurd (false≢true e)

module _ (h g : List ℕ) (m : ℕ) (d : List ℕ) (e : result_right h g m d ≡ true) where
  -- a result that reads as it must has a right header and table
  pub result_sound : hfe_refusal g ≡ none
  unfolding result_right
  result_sound = none_some (hfe_refusal g) (and_left (not (is_some (hfe_refusal g))) _ e)

  result_each : (q : ℕ) → q < all_sectors → sector_right h g m d q ≡ true
  unfolding result_right
  result_each = all_at (sector_right h g m d) all_sectors (and_right (not (is_some (hfe_refusal g))) (all (sector_right h g m d) all_sectors) e)

  result_data : m < all_sectors → gives_data g m d ≡ true
  unfolding sector_right
  result_data l = sym (cond_true (gives_data g m d) (same_sector h g m) (eq_true {a = m} refl)) ∙ result_each m l

  result_same : (q : ℕ) → q < all_sectors → q ≢ m → same_sector h g q ≡ true
  unfolding sector_right
  result_same q l n = sym (cond_false (gives_data g m d) (same_sector h g q) (eq_false n)) ∙ result_each q l

  -- its sector m is delivered
  pub result_reply : m < all_sectors → sector_reply m (sector_at g m) ≡ done
  result_reply l =
      number_reply m (sector_at g m) (Ok 0) (true_eq (and_left (eqb (sector_number g m) 0) _ (result_data l)))

  -- with the data
  pub result_bytes : m < all_sectors → sector_bytes_at g m ≡ d
  result_bytes l = same_eq (sector_bytes_at g m) d (and_right (eqb (sector_number g m) 0) (same (sector_bytes_at g m) d) (result_data l))

  -- every other sector gets the reply it got
  pub result_replies : (q : ℕ) → q < all_sectors → q ≢ m → sector_reply q (sector_at g q) ≡ sector_reply q (sector_at h q)
  result_replies q l n =
      sym
      (number_reply q (sector_at h q) (sector_at g q)
      (true_eq (and_left (eqb (sector_number h q) (sector_number g q)) _ (result_same q l n))))

  -- and gives the bytes it gave
  pub result_others : (q : ℕ) → q < all_sectors → q ≢ m → sector_bytes_at g q ≡ sector_bytes_at h q
  result_others q l n =
      sym
      (same_eq (sector_bytes_at h q) (sector_bytes_at g q)
      (and_right (eqb (sector_number h q) (sector_number g q)) (same (sector_bytes_at h q) (sector_bytes_at g q)) (result_same q l n)))

-- ---- both ways

module _ (h g : List ℕ) (m : ℕ) (d : List ℕ) where
  -- a result that reads as it must by the test reads as is asked
  pub right_reads : m < all_sectors → result_right h g m d ≡ true → ResultReads h g m d
  right_reads l e =
      record {
        right = result_sound h g m d e;
        reply = result_reply h g m d e l;
        bytes = result_bytes h g m d e l;
        replies = result_replies h g m d e;
        others = result_others h g m d e;
      }

  module _ (x : ResultReads h g m d) where
    sector_right_lem : (q : ℕ) → q < all_sectors → sector_right h g m d q ≡ true
    unfolding sector_right
    sector_right_lem q l =
        by_equal q m
        (λ e.
        cond_true (gives_data g m d) (same_sector h g q) (eq_true e)
        ∙ and_true (eq_true (ap (λ (y : Reply). y.number) x.reply)) (eq_same (sector_bytes_at g m) d x.bytes))
        (λ n.
        cond_false (gives_data g m d) (same_sector h g q) (eq_false n)
        ∙ and_true (eq_true (ap (λ (y : Reply). y.number) (sym (x.replies q l n))))
        (eq_same (sector_bytes_at h q) (sector_bytes_at g q) (sym (x.others q l n))))

    -- and the other way round
    pub reads_right : result_right h g m d ≡ true
    unfolding result_right is_some
    reads_right = and_true (ap (λ (o : Option Reply). not (is_some o)) x.right) (all_is (sector_right h g m d) all_sectors sector_right_lem)
