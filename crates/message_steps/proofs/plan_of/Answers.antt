-- `message_steps::plan_of` meets its contract. Assumes nothing.
use mathlib.Core.Path.{ap}
use native.Mathlib.Omega.{arith}
use Rattle.messages.specs.Cut.{pieces-few}
use Rattle.queue.specs.Laid.{len_small}
use Rattle.queue.specs.Queue.{tail_of}
use Rattle.queue.specs.declared.Tail.{Tail}
use Rattle.send_words.specs.Words.{state_of}
use Rattle.message_steps.proofs.plan_of.Goals as goal

pub survey-requires : goal.survey-requires
unfolding tail_of
survey-requires c = let r = c.requires in (
  r.low,
  r.high,
  omega (arith, c.record_len.ensures, len_small c.args.epoch 12),
  record {
    tailed = c.tail_of.ensures.1;
    few = omega (arith, r.count, r.limit, ap (λ (t : Tail). t.count) c.tail_of.ensures.0);
  },
)

pub returns : goal.returns
returns c = (
  rw (c.tail_of.ensures.0, c.record_len.ensures) at c.survey.ensures.0,
  rw (c.tail_of.ensures.0, c.record_len.ensures) at c.survey.ensures.1,
  omega (
    arith,
    c.survey.ensures.0,
    pieces-few 13 (state_of c.args.w.now).queue.mtu c.record_len.result (record {
      tail = c.tail_of.result;
      rest = c.args.n;
    }),
  ),
)
