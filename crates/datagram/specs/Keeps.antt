-- Steps over a datagram keep the ranges; 12 and 15 are what is refused. Assumes nothing.
use Rattle.std.specs.Prelude.{ℕ, ◌+◌, ◌-◌, ◌≤◌, Bool, true, false, ◌≡◌, refl}
use Rattle.std.proofs.Common.{leb-false, sym, ◌∙◌, arith}
use Rattle.std.proofs.lemmas.Bool.{false≢true}
use Rattle.base.specs.Choose.{by_test}
use Rattle.recv_keys.specs.declared.RecvKeys.{RecvKeys}
use Rattle.datagram.specs.Datagram.{question_sound, moved, questioned, counted, end_asked}
use Rattle.datagram.specs.Sound.{Held, Ready}
use Rattle.datagram.specs.declared.Ask.{Ask}
use Rattle.datagram.specs.declared.Datagram.{Datagram}
use Rattle.datagram.specs.declared.Question.{Question}
use Rattle.datagram.specs.declared.Reading.TheVariants as says
use Rattle.datagram.specs.declared.Reading.{Reading}
use Rattle.datagram.specs.declared.Step.{Step}

-- the ranges hold behind a step
abbrev pub Good : RecvKeys → Step → Type 0
Good k t = Ready k t.datagram

-- a cursor within the datagram and no question
pub free : (k : RecvKeys) (b : Datagram) (at readings : ℕ) → Ready k b → at ≤ b.size → readings ≤ 16 → Ready k (moved b at readings)
unfolding question_sound
free k b at readings r h l = record { keys = r.keys; size = r.size; at = h; readings = l; question = refl }

-- a record passed
pub passed-keeps : (k : RecvKeys) (b : Datagram) (next : ℕ) → Ready k b → next ≤ b.size → Ready k (moved b next b.readings)
passed-keeps k b next r h = free k b next b.readings r h r.readings

-- a question about the record at the cursor
pub question-keeps : (k : RecvKeys) (b : Datagram) (q : Question) → Ready k b → question_sound k q (b.size - b.at) ≡ true → Ready k (questioned b q)
question-keeps k b q r h = record { keys = r.keys; size = r.size; at = r.at; readings = r.readings; question = h }

pub counted-keeps : (k : RecvKeys) (b : Datagram) (next : ℕ) (x : Reading) → Ready k b → next ≤ b.size → Good k (counted b next x)
unfolding counted
counted-keeps k b next x r h =
    by_test (Good k) (λ t. passed-keeps k b b.size r (omega arith))
    (λ t. free k b next (b.readings + 1) r h (omega (arith, leb-false 16 b.readings t)))

-- the record under a question lies within the datagram
pub end_fits : (k : RecvKeys) (b : Datagram) (a : Ask) → Ready k b → Held k a (b.size - b.at) → end_asked b a ≤ b.size
end_fits k b a r h = omega (arith, h.head, h.fits, r.at)

-- ---- refused: 12 and 15

abbrev pub refused : Reading → Bool
refused says.Setting = true
refused says.Reply = true
refused says.End = false
refused says.Incomplete = false
refused says.TooMany = false
refused (says.Dropped r) = false
refused (says.Plaintext t n s l) = false
refused (says.Unopened b n s l) = false
refused (says.Opened e n t s l) = false
refused (says.Mask e s) = false
refused (says.Opening e n s h l) = false

-- what is not refused proves anything of one refused
pub never : {A : Type 0} {x : Bool} → x ≡ false → x ≡ true → A
never e t = absurd (false≢true (sym e ∙ t))

abbrev pub Goes : Step → Type 0
Goes t = refused t.reading ≡ false

pub counted-goes : (b : Datagram) (next : ℕ) (x : Reading) → refused x ≡ false → Goes (counted b next x)
unfolding counted
counted-goes b next x e = by_test Goes (λ t. refl) (λ t. e)

-- a step that is refused leaves the datagram's state
abbrev pub Stays : Datagram → Step → Type 0
Stays b t = refused t.reading ≡ true → t.datagram ≡ b
