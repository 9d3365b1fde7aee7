-- Entries and flags written: what they make of the state. Assumes nothing.
use Rattle.std.specs.Prelude.{true, ◌≡◌, refl, ℕ, zero, suc, ◌+◌, ◌-◌, ◌≤◌, ◌<◌, ◌%◌, eqb, length, get_or, set, replicate}
use mathlib.Core.List.{List, ◌∷◌}
use Rattle.std.proofs.Common.{sym, ◌∙◌, arith, length-set, lt-ltb, le-ltb}
use Rattle.std.proofs.Math.Path.{ap, subst}
use Rattle.std.proofs.Math.ListN.{drop}
use Rattle.base.specs.Bytes.{be_at}
use Rattle.base.specs.Choose.{choose, both, both_left, both_right, both_true, if_true, if_false}
use Rattle.datagram.specs.Datagram.{begun}
use Rattle.recv_keys.specs.declared.RecvEpochEntry.{RecvEpochEntry}
use Rattle.recv_keys.specs.declared.RecvKeys.{RecvKeys}
use Rattle.recv_keys.specs.Keys.{no_entry, fresh, encrypted, released, installed, left_at, left}
use Rattle.window.specs.Window.{unmarked}
use Rattle.words.specs.Fields.{first_of, by-words}
use Rattle.words.specs.Packed.{iv_of, LowIv}
use Rattle.words.proofs.Packed.{iv-back}
use Rattle.recv_words.specs.Words.{words, count_at, highest-at, encrypted-at, released-at, least_at, entries_of, keys_of, question_of, datagram_of, is_flat, rest_of, put_entry}

-- ---- an entry written

-- the entry at i is e, the others and all else is as it was
pub record Written (i : ℕ) (e : RecvEpochEntry) (w v : List ℕ) : Type 0 where
  pub entries : entries_of v ≡ set (entries_of w) i e
  pub rest : rest_of v ≡ rest_of w
  pub long : length v ≡ words

low-entry : RecvEpochEntry → RecvEpochEntry
low-entry e = record { epoch = e.epoch % 65536; iv = iv_of (be_at 4 e.iv 0) (be_at 8 e.iv 4); replay = e.replay }

abbrev Puts : ℕ → RecvEpochEntry → List ℕ → Type 0
Puts i e w = (entries_of (put_entry i e w) ≡ set (entries_of w) i (low-entry e)) × (rest_of (put_entry i e w) ≡ rest_of w)

puts : (i : ℕ) (e : RecvEpochEntry) (w : List ℕ) → i < 5 → length w ≡ words → Puts i e w
unfolding first_of entries_of low-entry
puts zero e w l h = by-words words (Puts 0 e) w h (refl, refl)
puts (suc zero) e w l h = by-words words (Puts 1 e) w h (refl, refl)
puts (suc (suc zero)) e w l h = by-words words (Puts 2 e) w h (refl, refl)
puts (suc (suc (suc zero))) e w l h = by-words words (Puts 3 e) w h (refl, refl)
puts (suc (suc (suc (suc zero)))) e w l h = by-words words (Puts 4 e) w h (refl, refl)
puts (suc (suc (suc (suc (suc i))))) e w l h = absurd (omega arith)

low-back : (e : RecvEpochEntry) → e.epoch ≤ 65535 → LowIv e.iv → low-entry e ≡ e
unfolding low-entry
low-back e h b =
    let q : e.epoch % 65536 ≡ e.epoch = omega arith in
    ap (λ (x : ℕ). record { epoch = x; iv = iv_of (be_at 4 e.iv 0) (be_at 8 e.iv 4); replay = e.replay }) q
    ∙ ap (λ (x : List ℕ). record { epoch = e.epoch; iv = x; replay = e.replay }) (iv-back e.iv b.0 b.1)

pub written : (i : ℕ) (e : RecvEpochEntry) (w : List ℕ) → i < 5 → length w ≡ words → e.epoch ≤ 65535 → LowIv e.iv → Written i e w (put_entry i e w)
written i e w l h q b = record {
  entries = (puts i e w l h).0 ∙ ap (set (entries_of w) i) (low-back e q b);
  rest = (puts i e w l h).1;
  long = simp length-set h;
}

-- ---- the rest of the state stays

abbrev pub Beside : List ℕ → List ℕ → Type 0
Beside w v = (datagram_of v ≡ datagram_of w) × (is_flat v ≡ is_flat w)

-- keys and datagram by the entries and the words that are no entry's
abbrev keys_by : List RecvEpochEntry → List ℕ → RecvKeys
keys_by l r = record {
  entries = l;
  count = get_or r 0 0;
  highest = get_or r 1 0 % 65536;
  peer_encryption = eqb (get_or r 2 0) 1;
  released = eqb (get_or r 3 0) 1;
  min_protected = get_or r 4 0;
}

-- those words as a state of their own
abbrev alone : List ℕ → List ℕ
alone r = 0 ∷ 0 ∷ 0 ∷ 0 ∷ 0 ∷ 0 ∷ 0 ∷ 0 ∷ 0 ∷ 0 ∷ 0 ∷ 0 ∷ 0 ∷ 0 ∷ 0 ∷ r

beside-rest : (w : List ℕ) → (datagram_of w ≡ datagram_of (alone (rest_of w))) × (is_flat w ≡ is_flat (alone (rest_of w)))
unfolding question_of is_flat
beside-rest w = (refl, refl)

pub beside : (w v : List ℕ) → rest_of v ≡ rest_of w → Beside w v
beside w v e = (
  (beside-rest v).0 ∙ ap (λ (r : List ℕ). datagram_of (alone r)) e ∙ sym (beside-rest w).0,
  (beside-rest v).1 ∙ ap (λ (r : List ℕ). is_flat (alone r)) e ∙ sym (beside-rest w).1,
)

-- ---- count and highest written

abbrev Counted : ℕ → ℕ → List ℕ → Type 0
Counted n x w =
    (keys_of (set (set w count_at n) highest-at x) ≡ keys_by (entries_of w) (n ∷ x ∷ drop 2 (rest_of w))) × Beside w (set (set w count_at n) highest-at x)

counting : (n x : ℕ) (w : List ℕ) → length w ≡ words → Counted n x w
unfolding first_of entries_of question_of is_flat
counting n x w h = by-words words (Counted n x) w h (refl, (refl, refl))

abbrev Less : ℕ → List ℕ → Type 0
Less n w = (keys_of (set w count_at n) ≡ keys_by (entries_of w) (n ∷ drop 1 (rest_of w))) × Beside w (set w count_at n)

lessening : (n : ℕ) (w : List ℕ) → length w ≡ words → Less n w
unfolding first_of entries_of question_of is_flat
lessening n w h = by-words words (Less n) w h (refl, (refl, refl))

trans_beside : (u w v : List ℕ) → Beside u w → Beside w v → Beside u v
trans_beside u w v a b = (b.0 ∙ a.0, b.1 ∙ a.1)

-- an epoch keyed
pub installs : (i x : ℕ) (iv : List ℕ) (w v : List ℕ)
    → Written i (record { epoch = x; iv = iv; replay = unmarked }) w v → (keys_of w).count ≡ i → x ≤ 65535
    → (keys_of (set (set v count_at (i + 1)) highest-at x) ≡ installed (keys_of w) x iv) × Beside w (set (set v count_at (i + 1)) highest-at x)
unfolding installed
installs i x iv w v r e q =
    let c = counting (i + 1) x v r.long in
    let m : x % 65536 ≡ x = omega arith in (
      c.0
          ∙ ap (λ (l : List RecvEpochEntry). keys_by l ((i + 1) ∷ x ∷ drop 2 (rest_of v))) r.entries
          ∙ ap (λ (z : List ℕ). keys_by (set (entries_of w) i (record { epoch = x; iv = iv; replay = unmarked })) ((i + 1) ∷ x ∷ drop 2 z)) r.rest
          ∙ ap (λ (y : ℕ). record {
            entries = set (entries_of w) i (record { epoch = x; iv = iv; replay = unmarked });
            count = i + 1;
            highest = y;
            peer_encryption = (keys_of w).peer_encryption;
            released = (keys_of w).released;
            min_protected = (keys_of w).min_protected;
          }) m
          ∙ ap (λ (n : ℕ). record {
            entries = set (entries_of w) n (record { epoch = x; iv = iv; replay = unmarked });
            count = n + 1;
            highest = x;
            peer_encryption = (keys_of w).peer_encryption;
            released = (keys_of w).released;
            min_protected = (keys_of w).min_protected;
          }) (sym e),
      trans_beside w v (set (set v count_at (i + 1)) highest-at x) (beside w v r.rest) c.1,
    )

-- an entry left where it is
same-entry : (w : List ℕ) (j : ℕ) → j < 5 → entries_of w ≡ set (entries_of w) j (get_or (entries_of w) j no_entry)
unfolding entries_of
same-entry w zero h = refl
same-entry w (suc zero) h = refl
same-entry w (suc (suc zero)) h = refl
same-entry w (suc (suc (suc zero))) h = refl
same-entry w (suc (suc (suc (suc zero)))) h = refl
same-entry w (suc (suc (suc (suc (suc j))))) h = absurd (omega arith)

pub stays : (i j : ℕ) (w : List ℕ) → j < 4 → j < i → length w ≡ words → Written j (left_at (entries_of w) i j) w w
unfolding left_at
stays i j w h l long = record {
  entries = same-entry w j (omega arith) ∙ ap (set (entries_of w) j) (sym (if_true _ _ (lt-ltb _ _ l)));
  rest = refl;
  long = long;
}

pub moves : (i j : ℕ) (w v : List ℕ) → i ≤ j → Written j (get_or (entries_of w) (j + 1) no_entry) w v → Written j (left_at (entries_of w) i j) w v
unfolding left_at
moves i j w v h r = record {
  entries = r.entries ∙ ap (set (entries_of w) j) (sym (if_false _ _ (le-ltb _ _ h)));
  rest = r.rest;
  long = r.long;
}

-- the four that are shifted, one after the other, are those of `left`
abbrev shifted : ℕ → ℕ → List RecvEpochEntry → List RecvEpochEntry
shifted i j l = set l j (left_at l i j)

-- the first j of them
abbrev shifts : ℕ → ℕ → List RecvEpochEntry → List RecvEpochEntry
shifts i zero l = l
shifts i (suc j) l = shifted i j (shifts i j l)

all-shifted : (i : ℕ) (w : List ℕ) → shifts i 4 (entries_of w) ≡ (left (keys_of w) i).entries
unfolding entries_of left left_at
all-shifted i w = refl

-- w before them, v behind the first j
pub record Shifted (i j : ℕ) (w v : List ℕ) : Type 0 where
  pub entries : entries_of v ≡ shifts i j (entries_of w)
  pub rest : rest_of v ≡ rest_of w

pub shifts-none : (i : ℕ) (w : List ℕ) → Shifted i 0 w w
shifts-none i w = record { entries = refl; rest = refl }

pub shifts-more : (i j : ℕ) (w v u : List ℕ) → Shifted i j w v → Written j (left_at (entries_of v) i j) v u → Shifted i (j + 1) w u
shifts-more i j w v u s r =
    let next : suc j ≡ j + 1 = omega arith in
    subst (λ (n : ℕ). Shifted i n w u) next (record { entries = r.entries ∙ ap (shifted i j) s.entries; rest = r.rest ∙ s.rest })

module _ (i j : ℕ) (w v : List ℕ) (all : j ≡ 4) (s : Shifted i j w v) (long : length v ≡ words) where
  entries-all : entries_of v ≡ (left (keys_of w) i).entries
  entries-all = s.entries ∙ ap (λ (n : ℕ). shifts i n (entries_of w)) all ∙ all-shifted i w

  rest_all : rest_of v ≡ rest_of w
  rest_all = s.rest

  pub count-all : get_or v count_at 0 ≡ (keys_of w).count
  count-all = ap (λ (r : List ℕ). get_or r 0 0) rest_all

  pub uninstalls : (keys_of (set v count_at (get_or v count_at 0 - 1)) ≡ left (keys_of w) i) × Beside w (set v count_at (get_or v count_at 0 - 1))
  unfolding left
  uninstalls =
      let l = lessening (get_or v count_at 0 - 1) v long in (
        l.0
            ∙ ap (λ (x : List RecvEpochEntry). keys_by x ((get_or v count_at 0 - 1) ∷ drop 1 (rest_of v))) entries-all
            ∙ ap (λ (r : List ℕ). keys_by (left (keys_of w) i).entries ((get_or r 0 0 - 1) ∷ drop 1 r)) rest_all,
        trans_beside w v (set v count_at (get_or v count_at 0 - 1)) (beside w v rest_all) l.1,
      )

-- ---- flags, and the start

abbrev Encrypts : List ℕ → Type 0
Encrypts w = (keys_of (set w encrypted-at 1) ≡ encrypted (keys_of w)) × (datagram_of (set w encrypted-at 1) ≡ datagram_of w)

pub encrypts : (w : List ℕ) → length w ≡ words → Encrypts w
unfolding first_of entries_of question_of
encrypts w h = by-words words Encrypts w h (refl, refl)

abbrev Releases : List ℕ → Type 0
Releases w = (keys_of (set w released-at 1) ≡ released (keys_of w)) × (datagram_of (set w released-at 1) ≡ datagram_of w)

pub releases : (w : List ℕ) → length w ≡ words → Releases w
unfolding first_of entries_of question_of
releases w h = by-words words Releases w h (refl, refl)

flag-flat : (w : List ℕ) → length w ≡ words → is_flat w ≡ true → (is_flat (set w encrypted-at 1) ≡ true) × (is_flat (set w released-at 1) ≡ true)
unfolding first_of is_flat
flag-flat w h =
    by-words words (λ (v : List ℕ). is_flat v ≡ true → (is_flat (set v encrypted-at 1) ≡ true) × (is_flat (set v released-at 1) ≡ true)) w h
    (λ f. (both_true refl ∙ both_right _ _ f, both_true (both_left _ _ f) ∙ both_true refl ∙ both_right _ _ (both_right _ _ f)))

pub encrypt_flat : (w : List ℕ) → length w ≡ words → is_flat w ≡ true → is_flat (set w encrypted-at 1) ≡ true
encrypt_flat w h f = (flag-flat w h f).0

pub release_flat : (w : List ℕ) → length w ≡ words → is_flat w ≡ true → is_flat (set w released-at 1) ≡ true
release_flat w h f = (flag-flat w h f).1

abbrev pub fresh_words : ℕ → List ℕ
fresh_words min = set (replicate words 0) least_at min

pub starts : (min : ℕ) → (keys_of (fresh_words min) ≡ fresh min) × (datagram_of (fresh_words min) ≡ begun 0) × (is_flat (fresh_words min) ≡ true)
unfolding entries_of iv_of question_of is_flat choose both
starts min = (refl, refl, refl)
