-- What an epoch keyed writes of the words. Assumes nothing.
use mathlib.Core.List.{List}
use Rattle.std.specs.Prelude.{◌≡◌, refl, ℕ, ◌≤◌, ◌%◌, length}
use Rattle.std.proofs.Common.{sym, ◌∙◌, eq-eqb, ne_eqb}
use Rattle.std.proofs.Math.Path.{ap}
use Rattle.base.specs.Bytes.{be_at}
use Rattle.base.specs.Choose.{if_true, if_false}
use Rattle.send_keys.specs.declared.SendEpoch.{SendEpoch}
use Rattle.send_keys.specs.declared.SendKeys.{SendKeys}
use Rattle.send_keys.specs.Keys.{begun, keyed, with_handshake, with_application}
use Rattle.outgoing.specs.State.{with_keys}
use Rattle.words.specs.Fields.{first_of, by-words, low-back}
use Rattle.words.specs.Packed.{iv_of, LowIv}
use Rattle.words.proofs.Packed.{iv-back}
use Rattle.send_words.specs.Words.{words, handshake-at, handshake-iv-at, application-at, application-iv-at, lows_from, state_of, is_flat, put_epoch}
use Rattle.send_words.specs.Partly.{Partly}

-- an epoch as its words hold it
unfoldable low : SendEpoch → SendEpoch
low e = record { epoch = e.epoch % 65536; iv = iv_of (be_at 4 e.iv 0) (be_at 8 e.iv 4); next = e.next; sealed = e.sealed }

low-whole : (e : SendEpoch) → e.epoch ≤ 65535 → LowIv e.iv → low e ≡ e
unfolding low
low-whole e h i = rw (low-back h, iv-back e.iv i.0 i.1)

abbrev Puts : SendKeys → ℕ → ℕ → SendEpoch → List ℕ → Type 0
Puts k b at e w = (state_of (put_epoch b at e w) ≡ with_keys (state_of w) k) × (is_flat (put_epoch b at e w) ≡ is_flat w)

module _ (w : List ℕ) (h : length w ≡ words) (e : SendEpoch) where
  handshake-put : Puts (with_handshake (state_of w).keys (low e)) handshake-at handshake-iv-at e w
  unfolding first_of lows_from is_flat low
  handshake-put = by-words words (λ (v : List ℕ). Puts (with_handshake (state_of v).keys (low e)) handshake-at handshake-iv-at e v) w h (refl, refl)

  application-put : Puts (with_application (state_of w).keys (low e)) application-at application-iv-at e w
  unfolding first_of lows_from is_flat low
  application-put = by-words words (λ (v : List ℕ). Puts (with_application (state_of v).keys (low e)) application-at application-iv-at e v) w h (refl, refl)

-- v holds the words with this epoch put
abbrev Put : ℕ → ℕ → SendEpoch → List ℕ → List ℕ → Type 0
Put b at e w v = (v ≡ put_epoch b at e w) × (e.epoch ≤ 65535) × LowIv e.iv

abbrev Keyed : List ℕ → ℕ → List ℕ → List ℕ → Type 0
Keyed w e iv v = Partly (with_keys (state_of w) (keyed (state_of w).keys e iv)) w v

module _ (w v : List ℕ) (h : length w ≡ words) (e : ℕ) (iv : List ℕ) where
  pub handshake-keyed : Put handshake-at handshake-iv-at (begun e iv) w v → e ≡ 2 → Keyed w e iv v
  unfolding keyed
  handshake-keyed p g =
      let q = handshake-put w h (begun e iv) in
      rw p.0 (
        q.0 ∙ ap (λ (x : SendEpoch). with_keys (state_of w) (with_handshake (state_of w).keys x)) (low-whole (begun e iv) p.1 p.2)
            ∙ ap (with_keys (state_of w)) (sym (if_true _ _ (eq-eqb _ _ g))),
        λ f. q.1 ∙ f,
      )

  pub application-keyed : Put application-at application-iv-at (begun e iv) w v → (e ≡ 2 → ⊥) → Keyed w e iv v
  unfolding keyed
  application-keyed p g =
      let q = application-put w h (begun e iv) in
      rw p.0 (
        q.0 ∙ ap (λ (x : SendEpoch). with_keys (state_of w) (with_application (state_of w).keys x)) (low-whole (begun e iv) p.1 p.2)
            ∙ ap (with_keys (state_of w)) (sym (if_false _ _ (ne_eqb _ _ g))),
        λ f. q.1 ∙ f,
      )
