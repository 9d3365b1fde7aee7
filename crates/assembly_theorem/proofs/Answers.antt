-- What the host is told hangs on the bytes of its buffer that pieces held cover, and on no other: over two buffers of one length that have these
-- alike, a call answers alike and leaves the same words. Assumes nothing.
use Rattle.std.specs.Prelude.{true, List, ◌≡◌, ℕ, ◌+◌, length, get_or}
use Rattle.std.proofs.Math.Path.{refl, ap}
use Rattle.std.proofs.Common.{sym, ◌∙◌}
use Rattle.std.proofs.Math.Dec.{ltb}
use Rattle.base.specs.Choose.{both}
use Rattle.handshake.specs.declared.Header.{Header}
use Rattle.std.specs.Prelude as parsed
use Rattle.history_theorem.proofs.Lists.{by_both}
use Rattle.assembly.specs.Spans.{most_bytes, count_of, place_of, covered, all_shared}
use Rattle.assembly.specs.Assembly.{Outcome, piece_at, is_alike, is_agreed, finished, offered, read_at, taken}
use Rattle.assembly_theorem.proofs.Agreement.{alike}
use Rattle.assembly_theorem.proofs.Laws.{shared_each, each_shared}

-- ---- a call over two buffers of one length

abbrev Covered : List ℕ → List ℕ → List ℕ → Type 0
Covered w d e = (i : ℕ) → covered w (count_of w) i ≡ true → get_or d i 0 ≡ get_or e i 0

abbrev Alike : Outcome → Outcome → Type 0
Alike o q = (o.answer ≡ q.answer) × (o.words ≡ q.words)

finished-alike : (v x y : List ℕ) → Alike (finished v x) (finished v y)
unfolding finished
finished-alike v x y = by_both Alike refl (λ t. (refl, refl)) (λ t. (refl, refl))

module _ (w c d e : List ℕ) (same : Covered w d e) where
  shared_alike : (o : ℕ) (b : List ℕ) (m : ℕ) → all_shared w (count_of w) o b d m ≡ all_shared w (count_of w) o b e m
  shared_alike o b m =
      alike (all_shared w (count_of w) o b d m) (all_shared w (count_of w) o b e m)
      (λ s. each_shared w (count_of w) o b e m (λ j l t. shared_each w (count_of w) o b d m s j l t ∙ same (o + j) t))
      (λ s. each_shared w (count_of w) o b d m (λ j l t. shared_each w (count_of w) o b e m s j l t ∙ sym (same (o + j) t)))

  agreed-alike : (h : Header) (b : List ℕ) → is_agreed w h b d ≡ is_agreed w h b e
  unfolding is_agreed
  agreed-alike h b = ap (both (is_alike w h)) (shared_alike h.fragment_offset b (length b))

  offered-alike : (h : Header) (b : List ℕ) (next : ℕ) → Alike (offered w h b next d) (offered w h b next e)
  unfolding offered
  offered-alike h b next =
      by_both Alike refl
      (λ t. by_both Alike (sym (agreed-alike h b))
      (λ u. by_both Alike refl (λ s. (refl, refl)) (λ s. by_both Alike refl (λ l. finished-alike _ _ _) (λ l. (refl, refl)))) (λ u. (refl, refl)))
      (λ t. (refl, refl))

  read_alike : (q : parsed.Option Header) → Alike (read_at w c d q) (read_at w c e q)
  unfolding read_at
  read_alike parsed.None = (refl, refl)
  read_alike (parsed.Some h) = by_both Alike refl (λ t. offered-alike h _ _) (λ t. (refl, refl))

  pub taken-alike : length d ≡ length e → Alike (taken w c d) (taken w c e)
  unfolding taken
  taken-alike l =
      by_both Alike (ap (λ (n : ℕ). ltb n most_bytes) (sym l)) (λ t. (refl, refl))
      (λ t. by_both Alike refl
      (λ s. by_both Alike refl (λ n. by_both Alike refl (λ i. read_alike (piece_at c (place_of w))) (λ i. (refl, refl))) (λ n. (refl, refl)))
      (λ s. (refl, refl)))
