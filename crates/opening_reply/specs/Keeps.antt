-- An opening reply keeps the ranges; where it is refused, 12 or 15, nothing changes; only a yes moves a window. Assumes nothing.
use Rattle.opening_reply.specs.Opening.{Opening}
use Rattle.std.specs.Prelude.{ℕ, ◌-◌, ◌≡◌, Some}
use Rattle.datagram.specs.declared.Ask.{Ask}
use Rattle.datagram.specs.declared.Datagram.{Datagram}
use Rattle.datagram.specs.declared.Question.TheVariants as question
use Rattle.recv_keys.specs.Keys.{find, marked}
use Rattle.recv_keys.specs.declared.RecvKeys.{RecvKeys}
use Rattle.record.specs.Record.{tag_size}

-- ---- what an opening reply does to the keys

-- the number of the question that waits is marked, by a yes of the right length
pub record Marks (k : RecvKeys) (b : Datagram) (o : Opening) (l : RecvKeys) : Type 0 where
  pub ask : Ask
  pub number : ℕ
  pub place : ℕ
  pub waits : b.question ≡ question.Opening ask number
  pub found : find k.entries ask.epoch k.count ≡ Some place
  pub said : o ≡ Some (ask.length - tag_size)
  pub keys : l ≡ marked k place number
