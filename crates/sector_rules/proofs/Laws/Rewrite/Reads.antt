-- Where a rewrite is done, the result reads as it must, and no cell but those written is changed.
-- Rests on the replies of rewriting (Judged), the place of the data (Place) and the cells once they are written (After).
use Rattle.std.specs.Prelude.{None, false, List, ◌≡◌, ℕ, ◌+◌, ◌-◌, ◌/◌, ◌≤◌, ◌<◌, length, get_or}
use Rattle.std.proofs.Common.{sym, ap, ◌∙◌, arith}
use Rattle.laws.specs.Lists.{tab}
use Rattle.laws.specs.Laws.Tab.{tab_in}
use Rattle.cells.specs.Written.{written_cell}
use Rattle.sector_rules.specs.Geometry.{tracks, sides}
use Rattle.sector_rules.specs.Hfe.{is_version3, track_start, track_length, track_unit_bytes, table_fault, side_stream}
use Rattle.sector_rules.specs.Packed.{plain_items, image_sector_of}
use Rattle.sector_rules.specs.Rewritten.{data_place, data_cells, field_row, cell_after, is_side_byte, changed_bytes, rewritten, has_field}
use Rattle.sector_rules.specs.Rewriting.{side_cells_at, Rewrites, RewriteReads}
use Rattle.sector_rules.proofs.Laws.Base.Faults.{table_good, track_within}
use Rattle.sector_rules.proofs.Laws.Base.Versions.{version1_plain}
use Rattle.sector_rules.proofs.Laws.Rewrite.Base.{side_cells_at_lem, not_of_side, with_length, with_out}
use Rattle.sector_rules.proofs.Laws.Rewrite.Place.{data_within, data_place_is}
use Rattle.sector_rules.proofs.Laws.Rewrite.After.{after_written, after_before, after_after, after_last, after_clock, after_kept, cells_after}
use Rattle.sector_rules.proofs.Laws.Rewrite.Judged.{AcceptedRewrite, rewrite_after, rewrite_accepted, Named, arguments_named, named_within, named_sector}
use Rattle.sector_rules.proofs.Laws.Rewrite.Judged.{right_reads}

module _ (h : List ℕ) (t s r : ℕ) (d : List ℕ) where
  -- the rewritten image is as long as it was
  pub rewritten_length : length (rewritten h t s r d) ≡ length h
  unfolding rewritten
  rewritten_length = with_length h (track_start h t) (track_length h t / 2) s _ changed_bytes _

  -- a byte of a rewritten image that is not one of the side is as it was
  pub rewritten_outside : (k : ℕ) → is_side_byte (track_start h t) (track_length h t / 2) s 0 (track_length h t / 2) k ≡ false
      → get_or (rewritten h t s r d) k 0 ≡ get_or h k 0
  unfolding rewritten
  rewritten_outside k e =
      with_out h (track_start h t) (track_length h t / 2) s _ changed_bytes _ k (not_of_side (track_start h t) (track_length h t / 2) s _ changed_bytes k e)

  -- on its side a rewritten image has the cells once the data are written
  pub rewritten_cells : is_version3 h ≡ false → table_fault h ≡ None → t < tracks → s < sides
      → side_cells_at (rewritten h t s r d) (track_start h t) (track_length h t) s
      ≡ tab (cell_after (side_stream h t s) (data_place (side_stream h t s) t s r) (field_row d)) (length (side_stream h t s))
  unfolding rewritten track_unit_bytes
  rewritten_cells plain g ht hs =
      rw (side_cells_at_lem h t s plain)
      (cells_after h (track_start h t) (track_length h t) s (data_place (side_cells_at h (track_start h t) (track_length h t) s) t s r) (field_row d) hs
      (track_within h t (table_good h g t ht)))

  -- a cell that is as it was once the data are written is as it was in the rewritten image
  kept : is_version3 h ≡ false → table_fault h ≡ None → t < tracks → s < sides → (i : ℕ)
      → cell_after (side_stream h t s) (data_place (side_stream h t s) t s r) (field_row d) i ≡ get_or (side_stream h t s) i 0
      → get_or (side_cells_at (rewritten h t s r d) (track_start h t) (track_length h t) s) i 0 ≡ get_or (side_stream h t s) i 0
  kept plain g ht hs i e =
      ap (λ (c : List ℕ). get_or c i 0) (rewritten_cells plain g ht hs) ∙ after_kept (side_stream h t s) (data_place (side_stream h t s) t s r)
      (field_row d) i e

  -- the cells of data and CRC in the rewritten image
  new : is_version3 h ≡ false → table_fault h ≡ None → t < tracks → s < sides → data_place (side_stream h t s) t s r + data_cells ≤ length (side_stream h t s)
      → (i : ℕ) → i < data_cells
      → get_or (side_cells_at (rewritten h t s r d) (track_start h t) (track_length h t) s) (data_place (side_stream h t s) t s r + i) 0
      ≡ written_cell (plain_items (field_row d)) (16 + i)
  new plain g ht hs within i l =
      let c : List ℕ = side_stream h t s in
      let p : ℕ = data_place c t s r in
      let z : p + i - p ≡ i = omega arith in
      ap (λ (x : List ℕ). get_or x (p + i) 0) (rewritten_cells plain g ht hs)
      ∙ tab_in (cell_after c p (field_row d)) (length c) (p + i) (omega arith)
      ∙ after_written c p (field_row d) (p + i) (omega arith) (omega arith)
      ∙ ap (λ (k : ℕ). written_cell (plain_items (field_row d)) (16 + k)) z

  rewrites : AcceptedRewrite h t s r d → Rewrites h (rewritten h t s r d) t s r d (data_place (side_stream h t s) t s r)
  rewrites a =
      let c : List ℕ = side_stream h t s in
      let p : ℕ = data_place c t s r in
      let m : ℕ = image_sector_of t s r in
      let plain : is_version3 h ≡ false = version1_plain h a.header in
      let n : Named t s r d = arguments_named t s r d a.arguments in
      let l = named_within t s r n.track n.side n.least n.most in
      let within : p + data_cells ≤ length c =
      data_within c t s r (ap has_field (sym (named_sector t s r n.track n.side n.least n.most h)) ∙ a.field) in
      record {
        reads = right_reads h (rewritten h t s r d) m d l a.result;
        place = λ k e. data_place_is c t s r k (sym (named_sector t s r n.track n.side n.least n.most h) ∙ e);
        long = rewritten_length;
        outside = rewritten_outside;
        written = new plain a.table n.track n.side within;
        before = λ i k. kept plain a.table n.track n.side i (after_before c p (field_row d) i k);
        after = λ i k. kept plain a.table n.track n.side i (after_after c p (field_row d) i k);
        last = λ e. kept plain a.table n.track n.side (p + data_cells) (after_last c p (field_row d) (omega arith));
        clocked = λ k.
            ap (λ (x : List ℕ). get_or x (p + data_cells) 0) (rewritten_cells plain a.table n.track n.side)
            ∙ tab_in (cell_after c p (field_row d)) (length c) (p + data_cells) (omega arith) ∙ after_clock c p (field_row d) k;
      }

-- where a rewrite is done, this sector reads the data, every other what it read before, and no cell but those written is changed
pub rewrite_reads : RewriteReads
rewrite_reads h t s r d e = rw (rewrite_after h t s r d e) (rewrites h t s r d (rewrite_accepted h t s r d e))
