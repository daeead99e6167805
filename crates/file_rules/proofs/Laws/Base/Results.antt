-- What list and read leave in the result buffer is what the model says (§8.8).
-- Rests on the laws of written rows (laws, Overlay).
use Rattle.std.specs.Prelude.{◌≡◌, ℕ, ◌+◌, ◌-◌, ◌≤◌, ◌<◌, leb, get_or}
use Rattle.std.proofs.Math.Path.{sym, ap}
use Rattle.std.proofs.Common.{◌∙◌, arith, get_or-append-add, get_or-drop}
use mathlib.Core.List.{List, ◌++◌}
use Rattle.std.proofs.Math.ListN.{length, drop, length-append, length-drop, get_or-append}
use Rattle.laws.specs.Lists.{element_at}
use Rattle.laws.specs.Changes.{put}
use Rattle.laws.specs.Laws.Cases.{by_test}
use Rattle.laws.specs.Laws.Tests.{true_le, cond_true, cond_false}
use Rattle.laws.specs.Laws.Overlay.{overlay_is}
use Rattle.sector_rules.specs.Replies.{reply_with}
use Rattle.file_rules.specs.Calls.{buffer_kept, deliver}
use Rattle.file_rules.specs.Model.{result_of}

module _ (bytes buf : List ℕ) where
  -- written from the beginning on: the bytes, then what stood after them
  put_front : length bytes ≤ length buf → put buf 0 bytes ≡ bytes ++ drop (length bytes) buf
  unfolding put element_at
  put_front h =
      sym (overlay_is buf 0 (length bytes) (element_at bytes 0) (bytes ++ drop (length bytes) buf) long in_new (λ k l. absurd (omega arith)) in_high)
    where
      long : length (bytes ++ drop (length bytes) buf) ≡ length buf
      long = omega (arith, length-append bytes (drop (length bytes) buf), length-drop (length bytes) buf)

      in_new : (k : ℕ) → 0 ≤ k → k < 0 + length bytes → k < length buf → get_or (bytes ++ drop (length bytes) buf) k 0 ≡ element_at bytes 0 (k - 0)
      in_new k a b c =
          let z : k ≡ 0 + (k - 0) = omega arith in
          get_or-append bytes (drop (length bytes) buf) 0 k (omega arith) ∙ ap (λ (j : ℕ). get_or bytes j 0) z

      in_high : (k : ℕ) → 0 + length bytes ≤ k → get_or (bytes ++ drop (length bytes) buf) k 0 ≡ get_or buf k 0
      in_high k a =
          let z : k ≡ length bytes + (k - length bytes) = omega arith in
          ap (λ (j : ℕ). get_or (bytes ++ drop (length bytes) buf) j 0) z
          ∙ get_or-append-add bytes (drop (length bytes) buf) (k - length bytes) 0
          ∙ get_or-drop (length bytes) buf (k - length bytes) 0
          ∙ ap (λ (j : ℕ). get_or buf j 0) (sym z)

  -- reply and buffer of a result are those of the model
  pub result_is : deliver bytes buf ≡ result_of bytes buf
  unfolding deliver result_of buffer_kept
  result_is =
      by_test (leb (length bytes) (length buf))
      (λ t.
      cond_true _ _ t
      ∙ ap (λ (l : List ℕ). record { answer = reply_with 0 (length bytes) 0 0; buffer = l }) (put_front (true_le t))
      ∙ sym (cond_true _ _ t))
      (λ t. cond_false _ _ t ∙ sym (cond_false _ _ t))
