-- rewrite_replies: the replies of rewrite in their order.
-- Rests on one law for each reply (Judged).
use Rattle.std.specs.Prelude.{None, true, ◌&&◌, List, ◌≡◌, refl, ℕ, ◌≤◌, ◌<◌, leb, ltb, length}
use Rattle.std.proofs.Common.{◌∙◌}
use Rattle.laws.specs.Laws.Cases.{by_test}
use Rattle.laws.specs.Laws.Tests.{eq_true, eq_false, and_false_right}
use Rattle.sector_rules.specs.Replies.{reply_with}
use Rattle.sector_rules.specs.Geometry.{tracks, sides, sectors, all_sectors}
use Rattle.sector_rules.specs.Hfe.{version1_fault, table_fault}
use Rattle.sector_rules.specs.Unpacked.{sector_at}
use Rattle.sector_rules.specs.Packed.{image_sector_of}
use Rattle.sector_rules.specs.Rewritten.{rewritten, result_right, has_field, rewrite_arguments, rewrite_reply}
use Rattle.sector_rules.specs.Rewriting.{ResultReads, ArgumentLimits, RewriteReplies}
use Rattle.sector_rules.proofs.Laws.Rewrite.Judged.{rewrite_short, rewrite_arguments_lem, rewrite_header, rewrite_table, rewrite_sound}
use Rattle.sector_rules.proofs.Laws.Rewrite.Judged.{rewrite_field, rewrite_wrong, rewrite_done, Named, arguments_named, named_within}
use Rattle.sector_rules.proofs.Laws.Rewrite.Judged.{right_reads, reads_right}

argument_limits : ArgumentLimits
argument_limits =
    record {
      first = λ d e. eq_true e;
      last = λ d e. eq_true e;
      track = λ d. refl;
      side = λ d. refl;
      below = λ d. refl;
      above = λ d. refl;
      long = λ t s r d n. and_false_right (ltb t tracks && ltb s sides && leb 1 r && leb r sectors) (eq_false n);
    }

module _ (h : List ℕ) (t s r : ℕ) (d : List ℕ) (l : 1024 ≤ length h) (a : rewrite_arguments t s r d ≡ true) (f : version1_fault h ≡ None)
    (g : table_fault h ≡ None) (x : has_field (sector_at h (image_sector_of t s r)) ≡ true) where
  within : image_sector_of t s r < all_sectors
  within = let n : Named t s r d = arguments_named t s r d a in named_within t s r n.track n.side n.least n.most

  result_done : ResultReads h (rewritten h t s r d) (image_sector_of t s r) d → rewrite_reply h t s r d ≡ reply_with 0 0 0 0
  result_done y = rewrite_sound h t s r d l a f g ∙ rewrite_done h t s r d x (reads_right h (rewritten h t s r d) (image_sector_of t s r) d y)

  result_misread : (ResultReads h (rewritten h t s r d) (image_sector_of t s r) d → ⊥) → rewrite_reply h t s r d ≡ reply_with 17 0 0 0
  result_misread n =
      rewrite_sound h t s r d l a f g
      ∙ rewrite_wrong h t s r d x
      (by_test (result_right h (rewritten h t s r d) (image_sector_of t s r) d)
      (λ e. absurd (n (right_reads h (rewritten h t s r d) (image_sector_of t s r) d within e))) (λ e. e))

-- the replies of rewrite are given in the order 1, 12, 2, 3, 4 to 6 for this sector, 17
pub rewrite_replies : RewriteReplies
rewrite_replies =
    record {
      limits = argument_limits;
      fields = record { delivered = λ p. refl; damaged = refl; missing = refl; repeated = refl; absent = refl };
      short = rewrite_short;
      arguments = rewrite_arguments_lem;
      header = rewrite_header;
      table = rewrite_table;
      field = λ h t s r d l a f g x. rewrite_sound h t s r d l a f g ∙ rewrite_field h t s r d x;
      accepted = result_done;
      misread = result_misread;
    }
