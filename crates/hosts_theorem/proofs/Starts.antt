-- Hosts that start: for every setting in range the words that the five starting calls leave, so that the claim is not hollow. Assumes nothing.
use Rattle.std.specs.Prelude.{ℕ, ◌≤◌, replicate, set, List, [], ◌≡◌, refl, Ok}
use Rattle.std.proofs.Common.{le-ltb}
use Rattle.base.specs.Choose.{if_false}
use Rattle.datagram.specs.Datagram.{begun}
use Rattle.recv_keys.specs.Keys.{fresh}
use Rattle.receiving.specs.Receiving.{fresh_of, made}
use Rattle.receiving.specs.declared.Done.TheVariants as done
use Rattle.recv_words.specs.Entries.{fresh_words}
use Rattle.recv_calls.specs.Laws.{starts_as}
use Rattle.send_words.specs.Words.{words, mtu-at, limit-at}
use Rattle.send_calls.specs.Calls.{starts-done}
use Rattle.flight_words.specs.Words as flightWords
use Rattle.flight_calls.specs.Calls as flights
use Rattle.acks.specs.Acks.{fresh_notes}
use Rattle.ack_calls.specs.Calls as acks
use Rattle.assembly.specs.Assembly as assembly
use Rattle.classify.specs.Classify as classify
use Rattle.ends_theorem.specs.Claim.{Startable}
use Rattle.ends_theorem.proofs.Starting.{ranges-setting}
use Rattle.ends_theorem.specs.World.{Setting, new_end}
use Rattle.hosts_theorem.specs.Log.{Host}
use Rattle.hosts_theorem.specs.Claim.{Started}

-- the words of husk_sending_init: 0 but for the settings
abbrev pub sending_words : ℕ → ℕ → List ℕ
sending_words mtu limit = set (set (replicate words 0) mtu-at mtu) limit-at limit

-- a host with fresh words and an empty log
abbrev pub first_host : Setting → Host
first_host s = record {
  incoming = record { words = fresh_words s.min; datagram = [] };
  pending = classify.fresh;
  outgoing = record {
    words = sending_words s.mtu s.limit;
    queue = s.queue;
    flight = replicate flightWords.words 0;
    numbers = replicate 384 0;
    kept = s.kept;
    count = replicate 1 0;
    epochs = replicate 32 0;
    noted = replicate 32 0;
  };
  assembly = assembly.fresh;
  seen = new_end s;
}

fresh-is : (min : ℕ) → min ≤ 17 → fresh_of min ≡ made (Ok done.Asked) (fresh min) (begun 0)
unfolding fresh_of
fresh-is min h = if_false _ _ (le-ltb 17 min h)

-- zeros are the notes that husk_notes_init leaves
fresh-notes : acks.FreshNotesCall (acks.notes_of (replicate 1 0) (replicate 32 0) (replicate 32 0))
unfolding fresh_notes
fresh-notes = refl

pub starts : (s : Setting) → Startable s → Started s (first_host s)
starts s o = record {
  receiving = (starts_as s.min (fresh_words s.min) (Ok done.Asked) (fresh_of s.min) refl (fresh-is s.min o.min), refl);
  datagram = refl;
  sending = starts-done s.mtu s.limit (ranges-setting s.mtu s.limit (record { low = o.low; high = o.high; some = o.some; most = o.most }));
  queue = refl;
  room = o.room;
  flight = flights.starts;
  kept = refl;
  notes = fresh-notes;
  assembly = refl;
  seen = refl;
}
