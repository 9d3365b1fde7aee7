-- A state written in part: what the words then stand for. Assumes nothing.
use Rattle.std.specs.Prelude.{true, List, ◌≡◌, ℕ, ◌≤◌, ◌%◌, eqb}
use Rattle.outgoing.specs.declared.Waiting.{Waiting}
use Rattle.outgoing.specs.declared.Sending.{Sending}
use Rattle.words.specs.Fields.{bit_of, bit-back, low-back}
use Rattle.send_words.specs.Words.{state_of, is_flat}

-- the words stand for s, flat if they were
abbrev pub Partly : Sending → List ℕ → List ℕ → Type 0
Partly s w v = (state_of v ≡ s) × (is_flat w ≡ true → is_flat v ≡ true)

unfoldable pub low-waiting : Waiting → Waiting
low-waiting x = record { any = eqb (bit_of x.any) 1; slot = x.slot; start = x.start; length = x.length; epoch = x.epoch % 65536; number = x.number }

pub waiting-back : (x : Waiting) → x.epoch ≤ 65535 → low-waiting x ≡ x
unfolding low-waiting
waiting-back x h = rw (bit-back x.any, low-back h)
