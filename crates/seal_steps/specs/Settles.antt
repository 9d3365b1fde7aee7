-- What a reply to a sealing writes of the words. Assumes nothing.
use Rattle.std.proofs.Math.Bool.{true}
use mathlib.Core.List.{List}
use Rattle.std.specs.Prelude.{◌≡◌, ℕ, ◌+◌, ◌≤◌, length, set}
use Rattle.std.proofs.Math.Path.{refl, ap}
use Rattle.std.proofs.Common.{sym, ◌∙◌, eq-eqb, ne_eqb}
use Rattle.outgoing.specs.State.{with_keys, with_waiting}
use Rattle.base.specs.Choose.{if_true, if_false, both_left, both_true}
use Rattle.send_keys.specs.declared.SendKeys.{SendKeys}
use Rattle.send_keys.specs.Keys.{with_sealed, sealed_up_to, with_handshake, with_application}
use Rattle.outgoing.specs.declared.Sending.{Sending}
use Rattle.outgoing.specs.declared.Waiting.{Waiting}
use Rattle.words.specs.Fields.{first_of, by-words, low_bit}
use Rattle.send_words.specs.Words.{words, handshake-sealed-at, application-sealed-at, lows_from, state_of, is_flat, put_waiting}
use Rattle.send_words.specs.Partly.{Partly, low-waiting, waiting-back}

-- these keys, and this sealing waits
abbrev with : Sending → SendKeys → Waiting → Sending
with s k x = with_waiting (with_keys s k) x

-- a number of an epoch is sealed, and this sealing waits next
abbrev pub settled : Sending → ℕ → ℕ → Waiting → Sending
settled s e n x = with s (sealed_up_to s.keys e n) x

abbrev sealed_handshake : SendKeys → ℕ → SendKeys
sealed_handshake k y = with_handshake k (with_sealed k.handshake y)

abbrev sealed_application : SendKeys → ℕ → SendKeys
sealed_application k y = with_application k (with_sealed k.application y)

module _ (w : List ℕ) (h : length w ≡ words) (x : Waiting) (y : ℕ) where
  handshake-put : state_of (set (put_waiting x w) handshake-sealed-at y) ≡ with (state_of w) (sealed_handshake (state_of w).keys y) (low-waiting x)
  unfolding first_of lows_from low-waiting
  handshake-put = by-words words (λ (v : List ℕ). state_of (set (put_waiting x v) handshake-sealed-at y) ≡ with (state_of v) (sealed_handshake (state_of v).keys y) (low-waiting x)) w h refl

  application-put : state_of (set (put_waiting x w) application-sealed-at y) ≡ with (state_of w) (sealed_application (state_of w).keys y) (low-waiting x)
  unfolding first_of lows_from low-waiting
  application-put = by-words words (λ (v : List ℕ). state_of (set (put_waiting x v) application-sealed-at y) ≡ with (state_of v) (sealed_application (state_of v).keys y) (low-waiting x)) w h refl

  flat-put : is_flat w ≡ true → (is_flat (set (put_waiting x w) handshake-sealed-at y) ≡ true) × (is_flat (set (put_waiting x w) application-sealed-at y) ≡ true)
  unfolding first_of is_flat
  flat-put = by-words words (λ (v : List ℕ). is_flat v ≡ true → (is_flat (set (put_waiting x v) handshake-sealed-at y) ≡ true) × (is_flat (set (put_waiting x v) application-sealed-at y) ≡ true)) w h
      (λ f. (both_true (both_left _ _ f) ∙ low_bit x.any, both_true (both_left _ _ f) ∙ low_bit x.any))

module _ (w v : List ℕ) (h : length w ≡ words) (e n : ℕ) (x : Waiting) (p : v ≡ put_waiting x w) (l : x.epoch ≤ 65535) where
  pub handshake-settles : e ≡ 2 → Partly (settled (state_of w) e n x) w (set v handshake-sealed-at (n + 1))
  unfolding sealed_up_to
  handshake-settles g =
      rw p (
        handshake-put w h x (n + 1) ∙ ap (with (state_of w) (sealed_handshake (state_of w).keys (n + 1))) (waiting-back x l)
            ∙ ap (λ (k : SendKeys). with (state_of w) k x) (sym (if_true _ _ (eq-eqb _ _ g))),
        λ f. (flat-put w h x (n + 1) f).0,
      )

  pub application-settles : (e ≡ 2 → ⊥) → Partly (settled (state_of w) e n x) w (set v application-sealed-at (n + 1))
  unfolding sealed_up_to
  application-settles g =
      rw p (
        application-put w h x (n + 1) ∙ ap (with (state_of w) (sealed_application (state_of w).keys (n + 1))) (waiting-back x l)
            ∙ ap (λ (k : SendKeys). with (state_of w) k x) (sym (if_false _ _ (ne_eqb _ _ g))),
        λ f. (flat-put w h x (n + 1) f).1,
      )
