-- The epochs keyed to receive (01, "resolve_epoch", "reconstruct_sequence", refusals 12, 13 and 23; RFC 9147, section 4.2.1).
use Rattle.std.specs.Prelude.{Bool, true, false, List, [], ◌∷◌, ℕ, zero, suc, ◌+◌, ◌-◌, ◌%◌, ltb, leb, eqb, get_or, set, Option, Some, None, is_some}
use Rattle.std.specs.Option.{option_or}
use Rattle.base.specs.Choose.{choose, both}
use Rattle.window.specs.Window.{unmarked, marking}
use Rattle.recv_keys.specs.declared.RecvEpochEntry.{RecvEpochEntry}
use Rattle.recv_keys.specs.declared.RecvKeys.{RecvKeys}

-- what stands beyond the entries
abbrev pub no_entry : RecvEpochEntry
no_entry = record { epoch = 0; iv = []; replay = unmarked }

abbrev pub entry_at : RecvKeys → ℕ → RecvEpochEntry
entry_at k i = get_or k.entries i no_entry

-- ---- which epoch

-- an index into the entries, if any
abbrev pub Found : Type 0
Found = Option ℕ

-- an application epoch, 3 or above, with these low bits
unfoldable pub fits : ℕ → ℕ → Bool
fits epoch bits = choose (leb 3 epoch) (eqb (epoch % 4) bits) false

-- the last of the first i that fits
unfoldable pub last_fit : List RecvEpochEntry → ℕ → ℕ → Found
last_fit l bits zero = None
last_fit l bits (suc i) = choose (fits (get_or l i no_entry).epoch bits) (Some i) (last_fit l bits i)

-- the last of the first i that is this epoch
unfoldable pub find : List RecvEpochEntry → ℕ → ℕ → Found
find l epoch zero = None
find l epoch (suc i) = choose (eqb (get_or l i no_entry).epoch epoch) (Some i) (find l epoch i)

-- epoch 2, for bits 2
unfoldable pub two : RecvKeys → ℕ → Found
two k bits = choose (eqb bits 2) (find k.entries 2 k.count) None

-- bits 2 mean epoch 2 while it is keyed and application data isn't released; else the last application epoch with those bits; else,
-- for bits 2, epoch 2 if keyed; else none
unfoldable pub resolve : RecvKeys → ℕ → Found
resolve k bits =
    choose k.released (option_or (last_fit k.entries bits k.count) (two k bits)) (option_or (two k bits) (last_fit k.entries bits k.count))

unfoldable pub was_found : Found → Bool
was_found f = is_some f

unfoldable pub is_keyed : RecvKeys → ℕ → Bool
is_keyed k epoch = was_found (find k.entries epoch k.count)

-- ---- numbers received

abbrev pub marked_entry : ℕ → RecvEpochEntry → RecvEpochEntry
marked_entry n e = record { epoch = e.epoch; iv = e.iv; replay = marking e.replay n }

-- number n marked in the window of the entry at i
unfoldable pub marked : RecvKeys → ℕ → ℕ → RecvKeys
marked k i n = record {
  entries = set k.entries i (marked_entry n (entry_at k i));
  count = k.count;
  highest = k.highest;
  peer_encryption = k.peer_encryption;
  released = k.released;
  min_protected = k.min_protected;
}

-- ---- ranges: outside them a call answers 12

unfoldable pub app_one : ℕ → ℕ
app_one epoch = choose (leb 3 epoch) 1 0

-- the application epochs among the first i
unfoldable pub apps : List RecvEpochEntry → ℕ → ℕ
apps l zero = 0
apps l (suc i) = apps l i + app_one (get_or l i no_entry).epoch

-- no window of the first i is above 2^48 - 1
unfoldable pub windows_sound : List RecvEpochEntry → ℕ → Bool
windows_sound l zero = true
windows_sound l (suc i) = choose (ltb 0xFFFF_FFFF_FFFF (get_or l i no_entry).replay.max_seq) false (windows_sound l i)

-- epoch 2 and four of 3 or above; "at most 17 for every suite used"
abbrev pub most_epochs : ℕ
most_epochs = 5

abbrev pub most_apps : ℕ
most_apps = 4

abbrev pub most_least : ℕ
most_least = 17

-- at most five epochs, four of them 3 or above, and the setting at most 17
unfoldable pub keys_sound : RecvKeys → Bool
keys_sound k =
    both (leb k.count most_epochs) (both (leb k.min_protected most_least)
    (both (leb (apps k.entries k.count) 4) (windows_sound k.entries k.count)))

-- ---- keying and removing

abbrev pub fresh_entry : RecvEpochEntry
fresh_entry = record { epoch = 0; iv = 0 ∷ 0 ∷ 0 ∷ 0 ∷ 0 ∷ 0 ∷ 0 ∷ 0 ∷ 0 ∷ 0 ∷ 0 ∷ 0 ∷ []; replay = unmarked }

abbrev pub fresh : ℕ → RecvKeys
fresh min = record {
  entries = fresh_entry ∷ fresh_entry ∷ fresh_entry ∷ fresh_entry ∷ fresh_entry ∷ [];
  count = 0;
  highest = 0;
  peer_encryption = false;
  released = false;
  min_protected = min;
}

abbrev pub encrypted : RecvKeys → RecvKeys
encrypted k = record {
  entries = k.entries;
  count = k.count;
  highest = k.highest;
  peer_encryption = true;
  released = k.released;
  min_protected = k.min_protected;
}

abbrev pub released : RecvKeys → RecvKeys
released k = record {
  entries = k.entries;
  count = k.count;
  highest = k.highest;
  peer_encryption = k.peer_encryption;
  released = true;
  min_protected = k.min_protected;
}

-- 23, a fifth application epoch; no place is left where five epochs are keyed
unfoldable pub is_full : RecvKeys → ℕ → Bool
is_full k epoch = choose (leb most_epochs k.count) true (choose (leb 3 epoch) (leb most_apps (apps k.entries k.count)) false)

-- behind the others, with nothing marked
unfoldable pub installed : RecvKeys → ℕ → List ℕ → RecvKeys
installed k epoch iv = record {
  entries = set k.entries k.count (record { epoch = epoch; iv = iv; replay = unmarked });
  count = k.count + 1;
  highest = epoch;
  peer_encryption = k.peer_encryption;
  released = k.released;
  min_protected = k.min_protected;
}

-- what comes to stand at j when the entry at i goes
unfoldable pub left_at : List RecvEpochEntry → ℕ → ℕ → RecvEpochEntry
left_at l i j = choose (ltb j i) (get_or l j no_entry) (get_or l (j + 1) no_entry)

-- without the entry at i; the highest ever keyed stays
unfoldable pub left : RecvKeys → ℕ → RecvKeys
left k i = record {
  entries = left_at k.entries i 0 ∷ left_at k.entries i 1 ∷ left_at k.entries i 2 ∷ left_at k.entries i 3 ∷ get_or k.entries 4 no_entry ∷ [];
  count = k.count - 1;
  highest = k.highest;
  peer_encryption = k.peer_encryption;
  released = k.released;
  min_protected = k.min_protected;
}
