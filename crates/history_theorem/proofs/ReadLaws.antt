-- A read and a mask reply: where the record leads is what the claim's account says, no window moves, nothing is handed over, and a read says
-- plaintext and unopened where that is due. Assumes nothing.
use Rattle.std.specs.Prelude.{ℕ, ◌+◌, ◌-◌, ◌/◌, ◌%◌, ◌<◌, ◌≤◌, eqb, get_or, drop, Bool, true, false, ◌≡◌, Some, None}
use borrow.Author.Tests.{leb-true, leb-false, le-ltb, lt-leb, eqb-true, eqb-false}
use Rattle.std.proofs.Math.ListN.{length, length-drop}
use Rattle.std.proofs.Common.{◌∙◌, arith}
use Rattle.std.proofs.lemmas.Bool.{false≢true}
use mathlib.Core.List.{List}
use Rattle.std.proofs.Math.Option.{Option, some}
use Rattle.std.proofs.Math.Path.{refl, sym, ap, subst}
use Rattle.base.specs.Bytes.{be_at, xors, length-xors}
use Rattle.base.specs.Choose.{if_true, if_false, by_test}
use Rattle.base.specs.Parts.{part, length_part, part-behind, length-splice}
use Rattle.datagram.specs.Datagram.{told, moved, ended, passed, counted, end_asked}
use Rattle.datagram.specs.Sound.{Held, Ready}
use Rattle.datagram.specs.declared.Ask.{Ask}
use Rattle.datagram.specs.declared.Datagram.{Datagram}
use Rattle.datagram.specs.declared.Reading.TheVariants as says
use Rattle.datagram.specs.declared.Reading.{Reading}
use Rattle.datagram.specs.declared.Reason.{Reason}
use Rattle.datagram.specs.declared.Step.{Step}
use Rattle.dtls_aead.specs.Nonce.{nonce_of}
use Rattle.mask_reply.proofs.Leads.{by-judged}
use Rattle.mask_reply.specs.Mask.{mask_bytes, unmasked, judged, masked_at, masked_by}
use Rattle.receiving.specs.Receiving.{stepped}
use Rattle.opening_reply.specs.Opening.{shown_by}
use Rattle.record.specs.Record.{partial_of, plaintext_of, parsed}
use Rattle.record.specs.declared.Ciphertext.{Ciphertext}
use Rattle.record.specs.declared.Parsed.TheVariants as parse
use Rattle.record.specs.declared.Parsed.{Parsed}
use Rattle.record.specs.declared.Plaintext.{Plaintext}
use Rattle.records.specs.Records.{locked_step, sealed_step, step_of, opening_asked}
use Rattle.recv_keys.specs.Keeps.{found-epoch}
use Rattle.recv_keys.specs.Keys.{entry_at, find, resolve, was_found, is_keyed, Found}
use Rattle.recv_keys.specs.Laws.{found-keyed}
use Rattle.recv_keys.specs.declared.RecvKeys.{RecvKeys}
use Rattle.history_theorem.specs.Account.{plain_head, head_size, said_size, record_size, good_plain}
use Rattle.history_theorem.specs.Claim.{Real, SaysPlaintext, SaysUnopened, Shows, There, Ends, RightNonce}
use Rattle.history_theorem.proofs.Cut.{Cuts, Finds, head-same, plain-parsed, sealed-parsed, nonce-own}
use Rattle.history_theorem.proofs.Lists.{splice-behind, splice-other}
use Rattle.history_theorem.specs.Receiver.{Handed, Out, out_of, read_to, masked_to, handed_by}
use Rattle.history_theorem.proofs.Sound.{FreshAsked, FlagAsked, Moves}
use Rattle.history_theorem.proofs.Table.{epoch_at, Table}

-- a step under these keys, over these bytes
abbrev pub out_by : RecvKeys → Step → List ℕ → Out
out_by k t d = out_of (stepped k t) d

abbrev pub reads_out : RecvKeys → Step → List ℕ → Out
reads_out k t d = read_to (stepped k t) d

abbrev pub masked_out : RecvKeys → Step × List ℕ → Out
masked_out k p = masked_to (stepped k p.0, p.1)

-- no window moves and nothing is handed over
pub record Quiet (k : RecvKeys) (ivs : ℕ → List ℕ) (b : Datagram) (d₀ : List ℕ) (to : Option ℕ) (end : ℕ) (good on : Bool) (o : Out) : Type 0 where
  pub keys : o.state.keys ≡ k
  pub asked : FreshAsked k o.state.datagram.question
  pub hands : (shown : List ℕ) (f : ℕ → List Handed) → handed_by o.reading shown f ≡ f
  pub real : Real o.reading good on
  pub nonce : RightNonce o.reading ivs o.nonce
  pub moves : Moves b d₀ to end o

module _ (k : RecvKeys) (used ivs : ℕ → List ℕ) (tab : Table k used ivs) (b : Datagram) (d₀ : List ℕ) (r : Ready k b)
    (whole : length d₀ ≡ b.size) (to : Option ℕ) (end : ℕ) (good on : Bool) where
  abbrev Calm : Out → Type 0
  Calm o = Quiet k ivs b d₀ to end good on o

  pub passed-quiet : (d : List ℕ) → length d ≡ length d₀ → (next : ℕ) (x : Reason) → end ≡ next → Calm (out_by k (passed b next x) d)
  passed-quiet d same next x e = record {
    keys = refl;
    asked = tt;
    hands = λ s f. refl;
    real = tt;
    nonce = tt;
    moves = record { size = refl; long = same; goes = (refl, sym e, refl) };
  }

  -- the datagram ends here
  end_quiet : end ≡ length d₀ → Calm (reads_out k (ended b says.End) d₀)
  end_quiet e = record {
    keys = refl;
    asked = tt;
    hands = λ s f. refl;
    real = tt;
    nonce = tt;
    moves = record { size = refl; long = refl; goes = (refl, sym (e ∙ whole), refl) };
  }

  incomplete_quiet : end ≡ length d₀ → Calm (reads_out k (ended b says.Incomplete) d₀)
  incomplete_quiet e = record {
    keys = refl;
    asked = tt;
    hands = λ s f. refl;
    real = tt;
    nonce = tt;
    moves = record { size = refl; long = refl; goes = (refl, sym (e ∙ whole), refl) };
  }

  counted-quiet : (next : ℕ) (x : Reading) → Calm (reads_out k (told (moved b next (b.readings + 1)) x) d₀) → Calm (reads_out k (counted b next x) d₀)
  unfolding counted
  counted-quiet next x c =
      by_test (λ t. Calm (reads_out k t d₀))
      (λ f. record {
        keys = refl;
        asked = tt;
        hands = λ s g. refl;
        real = tt;
        nonce = tt;
        moves = record { size = refl; long = refl; goes = (refl, sym (if_true _ _ f ∙ whole), refl) };
      })
      (λ f. c)

  -- ---- a read that comes to a record

  locked-quiet : (c : Ciphertext) (f : Found) → to ≡ epoch_at k.entries f → end ≡ b.at + c.header_len + c.length
      → Calm (reads_out k (locked_step f k b c) d₀)
  unfolding locked_step
  locked-quiet c None q e = passed-quiet d₀ refl _ _ e
  locked-quiet c (Some i) q e =
      by_test (λ t. Calm (reads_out k t d₀)) (λ f. passed-quiet d₀ refl _ _ e)
      (λ f. by_test (λ t. Calm (reads_out k t d₀)) (λ g. passed-quiet d₀ refl _ _ e)
      (λ g. record {
        keys = refl;
        asked = tt;
        hands = λ s h. refl;
        real = tt;
        nonce = tt;
        moves = record { size = refl; long = refl; goes = (refl, refl, (refl, q, e)) };
      }))

  sealed-quiet : (c : Ciphertext) → to ≡ epoch_at k.entries (resolve k c.epoch_bits) → on ≡ k.peer_encryption
      → end ≡ b.at + c.header_len + c.length → Calm (reads_out k (sealed_step k b c) d₀)
  unfolding sealed_step
  sealed-quiet c q enc e =
      by_test (λ t. Calm (reads_out k t d₀)) (λ f. locked-quiet c (resolve k c.epoch_bits) q e)
      (λ f. by_test (λ t. Calm (reads_out k t d₀)) (λ g. passed-quiet d₀ refl _ _ e)
      (λ g. counted-quiet _ _ (record {
        keys = refl;
        asked = tt;
        hands = λ s h. refl;
        real = enc ∙ f;
        nonce = tt;
        moves = record { size = refl; long = refl; goes = (refl, sym e, refl) };
      })))

  pub read-quiet : (rest : List ℕ) → rest ≡ drop b.at d₀ → (p : Parsed) (size : ℕ) → Cuts rest size p → end ≡ b.at + size
      → to ≡ epoch_at k.entries (resolve k (get_or rest 0 0 % 4)) → on ≡ k.peer_encryption → good ≡ good_plain rest
      → Calm (reads_out k (step_of p k b) d₀)
  unfolding step_of
  read-quiet rest q parse.End size c low to_is enc g = end_quiet (omega (arith, ap length q, length-drop b.at d₀, r.at))
  read-quiet rest q parse.Incomplete size c low to_is enc g = incomplete_quiet (omega (arith, ap length q, length-drop b.at d₀, r.at))
  read-quiet rest q (parse.Invalid n) size c low to_is enc g = passed-quiet d₀ refl _ _ (omega arith)
  read-quiet rest q (parse.Plaintext p) size c low to_is enc g =
      counted-quiet _ _ (record {
        keys = refl;
        asked = tt;
        hands = λ s h. refl;
        real = g ∙ c.1;
        nonce = tt;
        moves = record { size = refl; long = refl; goes = (refl, omega (arith, c.0), refl) };
      })
  read-quiet rest q (parse.Ciphertext x) size c low to_is enc g =
      sealed-quiet x (to_is ∙ ap (λ (z : Ciphertext). epoch_at k.entries (resolve k z.epoch_bits)) (sym c.1)) enc (omega (arith, c.0))

  -- the question that it asks knows the length of the number
  abbrev Flagged : List ℕ → Step → Type 0
  Flagged rest t = FlagAsked t.datagram.question (get_or rest 0 0)

  counted-flag : (rest : List ℕ) (next : ℕ) (x : Reading) → Flagged rest (counted b next x)
  unfolding counted
  counted-flag rest next x = by_test (Flagged rest) (λ f. tt) (λ f. tt)

  locked-flag : (rest : List ℕ) (c : Ciphertext) → c.s_flag ≡ eqb (get_or rest 0 0 / 8 % 2) 1 → (f : Found) → Flagged rest (locked_step f k b c)
  unfolding locked_step
  locked-flag rest c s None = tt
  locked-flag rest c s (Some i) = by_test (Flagged rest) (λ f. tt) (λ f. by_test (Flagged rest) (λ g. tt) (λ g. s))

  pub read-flag : (rest : List ℕ) (p : Parsed) (size : ℕ) → Cuts rest size p → Flagged rest (step_of p k b)
  unfolding step_of sealed_step
  read-flag rest parse.End size c = tt
  read-flag rest parse.Incomplete size c = tt
  read-flag rest (parse.Invalid n) size c = tt
  read-flag rest (parse.Plaintext p) size c = counted-flag rest _ _
  read-flag rest (parse.Ciphertext x) size c =
      by_test (Flagged rest) (λ f. locked-flag rest x (ap (λ (z : Ciphertext). z.s_flag) c.1) (resolve k x.epoch_bits))
      (λ f. by_test (Flagged rest) (λ g. tt) (λ g. counted-flag rest _ _))

  -- a plaintext or unopened reading shows what lies there
  abbrev Told : List ℕ → Step → Type 0
  Told rest t = Shows (reads_out k t d₀).reading rest (shown_by (reads_out k t d₀).reading d₀)

  counted-shows : (rest : List ℕ) (next : ℕ) (x : Reading) → Told rest (told (moved b next (b.readings + 1)) x) → Told rest (counted b next x)
  unfolding counted
  counted-shows rest next x z = by_test (Told rest) (λ f. tt) (λ f. z)

  locked-shows : (rest : List ℕ) (c : Ciphertext) (f : Found) → Told rest (locked_step f k b c)
  unfolding locked_step
  locked-shows rest c None = tt
  locked-shows rest c (Some i) = by_test (Told rest) (λ f. tt) (λ f. by_test (Told rest) (λ g. tt) (λ g. tt))

  shown-there : (rest : List ℕ) → rest ≡ drop b.at d₀ → (n m l : ℕ) → n ≡ m → part (b.at + n) l d₀ ≡ part m l rest
  shown-there rest q n m l e = sym (part-behind b.at n l d₀) ∙ ap (λ (x : List ℕ). part n l x) (sym q) ∙ ap (λ (x : ℕ). part x l rest) e

  plain-shows : (rest : List ℕ) → rest ≡ drop b.at d₀ → (p : Plaintext) → p ≡ plaintext_of rest
      → Shows (says.Plaintext p.content_type p.sequence_number (b.at + plain_head) p.length) rest (part (b.at + plain_head) p.length d₀)
  plain-shows rest q p e =
      let len : p.length ≡ be_at 2 rest 11 = ap (λ (z : Plaintext). z.length) e in (
        ap (λ (z : Plaintext). z.content_type) e,
        ap (λ (z : Plaintext). z.sequence_number) e,
        len,
        shown-there rest q plain_head plain_head p.length refl ∙ ap (λ (l : ℕ). part plain_head l rest) len,
      )

  pub read-shows : (rest : List ℕ) → rest ≡ drop b.at d₀ → (p : Parsed) → Cuts rest (record_size rest) p → Told rest (step_of p k b)
  unfolding step_of sealed_step partial_of
  read-shows rest q parse.End c = tt
  read-shows rest q parse.Incomplete c = tt
  read-shows rest q (parse.Invalid n) c = tt
  read-shows rest q (parse.Plaintext p) c = counted-shows rest _ _ (plain-shows rest q p c.2)
  read-shows rest q (parse.Ciphertext x) c =
      let head : x.header_len ≡ head_size (get_or rest 0 0) = ap (λ (z : Ciphertext). z.header_len) c.1 ∙ head-same rest (get_or rest 0 0) in
      let len : x.length ≡ record_size rest - head_size (get_or rest 0 0) = omega (arith, c.0) in
      by_test (Told rest) (λ f. locked-shows rest x (resolve k x.epoch_bits))
      (λ f. by_test (Told rest) (λ g. tt)
      (λ g. counted-shows rest _ _ (
        ap (λ (z : Ciphertext). z.epoch_bits) c.1,
        ap (λ (z : Ciphertext). z.sequence_number) c.1,
        len,
        shown-there rest q x.header_len (head_size (get_or rest 0 0)) x.length head ∙ ap (λ (l : ℕ). part (head_size (get_or rest 0 0)) l rest) len,
      )))

  -- the end is told where the datagram is over, 2 where a record is cut short, and everything else of a record that is there
  abbrev Stops : List ℕ → Step → Type 0
  Stops rest t = Ends (reads_out k t d₀).reading rest b.readings

  counted-stops : (rest : List ℕ) → There rest → (next : ℕ) (x : Reading) → (b.readings ≤ 15 → Stops rest (told (moved b next (b.readings + 1)) x))
      → Stops rest (counted b next x)
  unfolding counted
  counted-stops rest w next x z =
      by_test (Stops rest) (λ f. (w, leb-true 16 b.readings f)) (λ f. z (omega (arith, leb-false 16 b.readings f)))

  locked-stops : (rest : List ℕ) → There rest → (c : Ciphertext) (f : Found) → Stops rest (locked_step f k b c)
  unfolding locked_step
  locked-stops rest w c None = w
  locked-stops rest w c (Some i) = by_test (Stops rest) (λ f. w) (λ f. by_test (Stops rest) (λ g. w) (λ g. w))

  pub read-stops : (rest : List ℕ) (p : Parsed) → Finds rest p → Stops rest (step_of p k b)
  unfolding step_of sealed_step
  read-stops rest parse.End w = w
  read-stops rest parse.Incomplete w = w
  read-stops rest (parse.Invalid n) w = w
  read-stops rest (parse.Plaintext p) w = counted-stops rest w _ _ (λ few. (w, few))
  read-stops rest (parse.Ciphertext x) w =
      by_test (Stops rest) (λ f. locked-stops rest w x (resolve k x.epoch_bits))
      (λ f. by_test (Stops rest) (λ g. w) (λ g. counted-stops rest w _ _ (λ low. (w, low))))

  -- a record of which a plaintext or unopened reading is due is said to be that
  counted-says : (next : ℕ) (x : Reading) → b.readings ≤ 15 → counted b next x ≡ told (moved b next (b.readings + 1)) x
  unfolding counted
  counted-says next x low = if_false _ _ (lt-leb 16 b.readings (omega arith))

  pub plain-says : (rest : List ℕ) → good_plain rest ≡ true → plain_head + be_at 2 rest 11 ≤ length rest → b.readings ≤ 15
      → SaysPlaintext (reads_out k (step_of (parsed rest) k b) d₀).reading
  unfolding step_of
  plain-says rest good whole low =
      subst (λ (p : Parsed). SaysPlaintext (reads_out k (step_of p k b) d₀).reading) (sym (plain-parsed rest good whole))
      (subst (λ (t : Step). SaysPlaintext (reads_out k t d₀).reading) (sym (counted-says _ _ low)) tt)

  pub unopened-says : (rest : List ℕ) → get_or rest 0 0 / 32 ≡ 1 → get_or rest 0 0 / 16 % 2 ≡ 0 → head_size (get_or rest 0 0) ≤ length rest
      → said_size rest (get_or rest 0 0) ≤ length rest → 2 ≤ get_or rest 0 0 % 4 → k.peer_encryption ≡ false → b.readings ≤ 15
      → SaysUnopened (reads_out k (step_of (parsed rest) k b) d₀).reading
  unfolding step_of sealed_step
  unopened-says rest form on head whole bits off low =
      subst (λ (p : Parsed). SaysUnopened (reads_out k (step_of p k b) d₀).reading) (sym (sealed-parsed rest form on head whole))
      (subst (λ (t : Step). SaysUnopened (reads_out k t d₀).reading)
      (sym (if_false _ _ off ∙ if_false _ _ (le-ltb (get_or rest 0 0 % 4) 2 bits) ∙ counted-says _ _ low)) tt)

  -- ---- a mask reply to a mask question

  module _ (a : Ask) (m : List ℕ) (h : Held k a (b.size - b.at)) where
    abbrev number : List ℕ
    number = xors d₀ (b.at + 1) (mask_bytes a.s_flag m)

    two : (s : Bool) → length (mask_bytes s m) ≤ 2
    two true = omega arith
    two false = omega arith

    number_fits : b.at + 1 + length number ≤ length d₀
    number_fits = omega (arith, length-xors d₀ (b.at + 1) (mask_bytes a.s_flag m), two a.s_flag, h.head, h.tag, h.fits, h.two, r.at)

    pub masked-long : length (unmasked d₀ b.at a.s_flag m) ≡ length d₀
    unfolding unmasked
    masked-long = length-splice (b.at + 1) number d₀ number_fits

    -- what lies behind the record stays
    pub masked-behind : drop (end_asked b a) (unmasked d₀ b.at a.s_flag m) ≡ drop (end_asked b a) d₀
    unfolding unmasked
    masked-behind =
        splice-behind (b.at + 1) number d₀ number_fits (end_asked b a)
        (omega (arith, length-xors d₀ (b.at + 1) (mask_bytes a.s_flag m), two a.s_flag, h.tag, h.two))

    -- and so does each byte but the number's, one or two by the flag in the first byte
    long-by : (s : Bool) (first : ℕ) → s ≡ eqb (first / 8 % 2) 1 → length (mask_bytes s m) ≡ 1 + first / 8 % 2
    long-by true first e = let two : first / 8 % 2 ≡ 1 = eqb-true _ _ (sym e) in omega arith
    long-by false first e = let ne : first / 8 % 2 ≡ 1 → ⊥ = eqb-false _ _ (sym e) in omega arith

    pub masked-other : (first : ℕ) → a.s_flag ≡ eqb (first / 8 % 2) 1
        → (j : ℕ) → (b.at < j → j ≤ b.at + 1 + first / 8 % 2 → ⊥) → get_or (unmasked d₀ b.at a.s_flag m) j 0 ≡ get_or d₀ j 0
    unfolding unmasked
    masked-other first e j off =
        splice-other (b.at + 1) number d₀ number_fits j
        (λ l u.
        off (omega arith) (omega (arith, length-xors d₀ (b.at + 1) (mask_bytes a.s_flag m), long-by a.s_flag first e)))

  judged-quiet : (d : List ℕ) → length d ≡ length d₀ → (a : Ask) (i n : ℕ) → Held k a (b.size - b.at)
      → find k.entries a.epoch k.count ≡ Some i → to ≡ some a.epoch → end ≡ end_asked b a
      → Calm (masked_out k (judged (entry_at k i) b a n, d))
  unfolding opening_asked
  judged-quiet d same a i n h f to_is e =
      by-judged (entry_at k i) b a n (λ t. Calm (masked_out k (t, d))) (λ x. passed-quiet d same _ _ e)
      (λ small fresh. record {
        keys = refl;
        asked = (i, f, fresh);
        hands = λ s g. refl;
        real = tt;
        nonce = ap (λ (x : List ℕ). nonce_of x n)
            (tab.iv i (found-keyed k.entries a.epoch k.count i f) ∙ ap ivs (found-epoch k.entries a.epoch k.count i f)) ∙ nonce-own (ivs a.epoch) n;
        moves = record {
          size = refl;
          long = same;
          goes = (
            refl,
            refl,
            (
              part b.at a.header_len d,
              part (b.at + a.header_len) a.length d,
              refl,
              length_part b.at a.header_len d (omega (arith, h.head, r.at)),
              length_part (b.at + a.header_len) a.length d (omega (arith, h.head, h.fits, r.at)),
              to_is,
              e,
            ),
          );
        };
      })

  pub mask-quiet : (a : Ask) (m : List ℕ) → Held k a (b.size - b.at) → to ≡ some a.epoch → end ≡ end_asked b a
      → (f : Found) → find k.entries a.epoch k.count ≡ f → Calm (masked_out k (masked_by f k b a m d₀))
  unfolding masked_by masked_at was_found
  mask-quiet a m h to_is e None f = absurd (false≢true (ap was_found (sym f) ∙ (unfold is_keyed in h.installed)))
  mask-quiet a m h to_is e (Some i) f =
      judged-quiet (unmasked d₀ b.at a.s_flag m) (masked-long a m h) a i _ h f to_is e
