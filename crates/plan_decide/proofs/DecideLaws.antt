-- What the code decides, one law for each way out, with the code's tests as hypotheses. Assumes nothing.
use Prim.Native.Nat.{ℕ, ◌+◌, ◌*◌, ◌≤◌, ◌<◌}
use mathlib.Core.Bool.{Bool, true, false, cond, ◌&&◌, not}
use mathlib.Core.Path.{◌≡◌, sym, ap, ◌∙◌}
use native.Mathlib.Omega.{arith}
use borrow.Author.Tests.{lt-ltb, le-ltb}
use lib.Bits.{bit_or}
use lib.Dec.{ltb}
use Rattle.bloom.specs.Filter.{field_size, default_bits, default_probes}
use Rattle.bloom.specs.Have.{numbers_of}
use Rattle.bloom.specs.declared.have.FilterNumbers.{FilterNumbers}
use Rattle.message.specs.Flags.{flags_of, supports_sync_reset, read_only_flag, sync_reset}
use Rattle.message.specs.declared.flags.MessageFlags.{MessageFlags}
use Rattle.message.specs.declared.version.MessageVersion.{MessageVersion}
use Rattle.message.specs.declared.version.MessageVersion.TheVariants.{V1}
use Rattle.session.specs.PlanCall.{message_room, session_room}
use Rattle.session.specs.declared.plan_answer.PlanAnswer.{PlanAnswer}
use Rattle.session.specs.declared.plan_answer.PlanAnswer.TheVariants.{Silent, Reset, Says}
use Rattle.session.specs.declared.plan_answer.Rooms.{Rooms}
use Rattle.session.specs.Rooms.{if_room}
use Rattle.session.specs.declared.plan_answer.Stated.{Stated}
use Rattle.rules.specs.Sizes.{sizes}
use Rattle.rules.specs.declared.refusal.Refusal.{Refusal}
use Rattle.rules.specs.declared.refusal.Refusal.TheVariants.{PastSize, NoRoom, BadPick}
use Rattle.rules.proofs.Cases.{split}
use Rattle.session.specs.Plan.{version_for, flags_for}
use Rattle.session_state.specs.declared.session.Session.{Session}
use Rattle.plan_decide.specs.Internal.Draft.{SmallStated, SmallDraft, heads_count, count_if, filter_if, drafted, reset_stated, planned_counts, says_with, unless_breaks, decided, no_puts}
use Rattle.plan_decide.specs.Internal.Draft.{puts_for, puts_of}
use Rattle.plan_decide.specs.declared.decide.Draft.{Draft}
use Rattle.plan_decide.specs.declared.puts.Puts.{Puts}
use Rattle.std.specs.Prelude.{Result, Ok, Err}

-- ---- room

module _ (p : Stated) (r : Rooms) where
  pub heads_short : r.heads < sizes.hash * p.heads → Err (sizes.hash * p.heads) ≡ message_room p r
  unfolding message_room
  heads_short h = rw (lt-ltb _ _ h)

  module _ (heads : sizes.hash * p.heads ≤ r.heads) where
    pub need_short : r.need < sizes.hash * p.need → Err (sizes.hash * p.need) ≡ message_room p r
    unfolding message_room
    need_short h = rw (le-ltb _ _ heads, lt-ltb _ _ h)

    module _ (need : sizes.hash * p.need ≤ r.need) where
      pub have_short : r.have < sizes.hash * p.syncs + p.filter.size → Err (sizes.hash * p.syncs + p.filter.size) ≡ message_room p r
      unfolding message_room
      have_short h = rw (le-ltb _ _ heads, le-ltb _ _ need, lt-ltb _ _ h)

      module _ (have : sizes.hash * p.syncs + p.filter.size ≤ r.have) where
        pub list_short : r.list < sizes.hash * p.hashes → Err (sizes.hash * p.hashes) ≡ message_room p r
        unfolding message_room
        list_short h = rw (le-ltb _ _ heads, le-ltb _ _ need, le-ltb _ _ have, lt-ltb _ _ h)

        pub message_enough : sizes.hash * p.hashes ≤ r.list → Ok tt ≡ message_room p r
        unfolding message_room
        message_enough h = rw (le-ltb _ _ heads, le-ltb _ _ need, le-ltb _ _ have, le-ltb _ _ h)

module _ (last sent : ℕ) (r : Rooms) where
  pub last_short : r.last_sent < sizes.hash * last → Err (sizes.hash * last) ≡ session_room last sent r
  unfolding session_room
  last_short h = rw (lt-ltb _ _ h)

  module _ (there : sizes.hash * last ≤ r.last_sent) where
    pub sent_short : r.sent < sizes.hash * sent → Err (sizes.hash * sent) ≡ session_room last sent r
    unfolding session_room
    sent_short h = rw (le-ltb _ _ there, lt-ltb _ _ h)

    pub session_enough : sizes.hash * sent ≤ r.sent → Ok tt ≡ session_room last sent r
    unfolding session_room
    session_enough h = rw (le-ltb _ _ there, le-ltb _ _ h)

-- ---- what a message says

module _ (needs supports : Bool) (heads : ℕ) where
  pub no_reset : needs ≡ false → heads ≡ heads_count needs supports heads
  unfolding heads_count
  no_reset e = rw e

  pub reset_told : needs ≡ true → supports ≡ true → heads ≡ heads_count needs supports heads
  unfolding heads_count
  reset_told e q = rw (e, q)

  pub reset_shown : needs ≡ true → supports ≡ false → 0 ≡ heads_count needs supports heads
  unfolding heads_count
  reset_shown e q = rw (e, q)

module _ (given : Bool) (n : ℕ) where
  pub count_some : given ≡ true → n ≡ count_if given n
  unfolding count_if
  count_some e = rw e

  pub count_none : given ≡ false → 0 ≡ count_if given n
  unfolding count_if
  count_none e = rw e

module _ (given : Bool) (syncs entries bits probes : ℕ) where
  pub filter_some : (size : ℕ) → given ≡ true → size ≡ field_size entries bits
      → numbers_of entries bits probes (sizes.hash * syncs) size ≡ filter_if given syncs entries bits probes
  unfolding filter_if
  filter_some size e q = rw (e, q)

  pub filter_none : given ≡ false → numbers_of 0 0 0 0 0 ≡ filter_if given syncs entries bits probes
  unfolding filter_if
  filter_none e = rw e

pub flag_on : (on : Bool) (f g : MessageFlags) (flag : ℕ) → on ≡ true → g ≡ flags_of (bit_or f.0 flag) → g ≡ cond on (flags_of (bit_or f.0 flag)) f
flag_on on f g flag e q = rw e q

-- the first flag
pub understands : (n b : MessageFlags) → n ≡ flags_of 0 → b ≡ flags_of (bit_or n.0 supports_sync_reset) → b ≡ flags_of supports_sync_reset
understands n b e q = rw e at q

-- flags one after the other are their sum
pub flags_said : (reads forgets : Bool) (b f g : MessageFlags) → b ≡ flags_of supports_sync_reset
    → f ≡ cond reads (flags_of (bit_or b.0 read_only_flag)) b
    → g ≡ cond forgets (flags_of (bit_or f.0 sync_reset)) f
    → g ≡ flags_for reads forgets
unfolding flags_for
flags_said true true b f g s e q = rw (e, s) at q
flags_said true false b f g s e q = rw (e, s) at q
flags_said false true b f g s e q = rw (e, s) at q
flags_said false false b f g s e q = rw (e, s) at q

pub reset_is : (heads : ℕ) (f : MessageFlags) → f ≡ flags_of supports_sync_reset
    → ◌≡◌ {A = Stated}
    (record {
      version = V1;
      flags = f;
      document = false;
      heads = heads;
      need = 0;
      haves = 1;
      syncs = 0;
      filter = numbers_of 0 default_bits default_probes 0 0;
      hashes = 0;
    })
    (reset_stated heads)
reset_is heads f e = rw e

module _ (s : Session) (d : Draft) (bits probes : ℕ) where
  pub drafted_is : {v : MessageVersion} {f : MessageFlags} {tells : Bool} {h k y : ℕ} {n : FilterNumbers}
      → v ≡ version_for s.supports_v2
      → tells ≡ (s.needs_reset && s.supports_reset)
      → f ≡ flags_for s.read_only tells
      → h ≡ heads_count s.needs_reset s.supports_reset d.heads
      → k ≡ count_if d.gives 1
      → y ≡ count_if d.gives s.shared_heads
      → n ≡ filter_if d.gives s.shared_heads d.entries bits probes
      → ◌≡◌ {A = Stated}
      (record { version = v; flags = f; document = d.body.document; heads = h; need = d.need; haves = k; syncs = y; filter = n; hashes = d.body.hashes })
      (drafted s d bits probes)
  drafted_is v t f h k y n = rw (v, f, t, h, k, y, n)

pub small_reset : (heads : ℕ) → heads ≤ sizes.rows → SmallStated (reset_stated heads)
small_reset heads h = record { heads = h; need = omega arith; syncs = omega arith; field = omega arith; hashes = omega arith }

some_few : (b : Bool) (n most : ℕ) → n ≤ most → count_if b n ≤ most
unfolding count_if
some_few true n most h = h
some_few false n most h = omega arith

heads_few : (b c : Bool) (n most : ℕ) → n ≤ most → heads_count b c n ≤ most
unfolding heads_count
heads_few b c n most h = split (b && not c) (λ e. rw e (omega arith)) (λ e. rw e h)

field_small : (b : Bool) (syncs entries bits probes most : ℕ) → field_size entries bits ≤ most → (filter_if b syncs entries bits probes).size ≤ most
unfolding filter_if
field_small true syncs entries bits probes most h = h
field_small false syncs entries bits probes most h = omega arith

pub small_drafted : (s : Session) (d : Draft) (bits probes : ℕ) → SmallDraft s d bits → SmallStated (drafted s d bits probes)
small_drafted s d bits probes m =
    record {
      heads = heads_few _ _ _ _ m.heads;
      need = m.need;
      syncs = some_few _ _ _ m.shared;
      field = field_small d.gives _ _ _ _ _ m.field;
      hashes = m.hashes;
    }

-- ---- the answer

module _ (heads : ℕ) (r : Rooms) (p : Stated) (x : Result Unit ℕ) (e : p ≡ reset_stated heads) (q : x ≡ message_room p r) where
  pub reset_short : (wanted : ℕ) → x ≡ Err wanted → Err (NoRoom wanted) ≡ if_room Err (message_room (reset_stated heads) r) (Ok (Reset (reset_stated heads)))
  unfolding if_room
  reset_short wanted h = let k : message_room (reset_stated heads) r ≡ Err wanted = rw (← e) (sym q ∙ h) in rw k

  pub reset_enough : x ≡ Ok tt → Ok (Reset p) ≡ if_room Err (message_room (reset_stated heads) r) (Ok (Reset (reset_stated heads)))
  unfolding if_room
  reset_enough h = let k : message_room (reset_stated heads) r ≡ (Ok tt) = rw (← e) (sym q ∙ h) in rw k (ap (λ x. Ok (Reset x)) e)

module _ (s : Session) (d : Draft) (bits probes : ℕ) (r : Rooms) where
  module _ (p : Stated) (x : Result Unit ℕ) (e : p ≡ drafted s d bits probes) (q : x ≡ message_room p r) where
    room_is : (y : Result Unit ℕ) → x ≡ y → message_room (drafted s d bits probes) r ≡ y
    room_is y h = ap (λ (z : Stated). message_room z r) (sym e) ∙ sym q ∙ h

    pub message_short : (wanted : ℕ) → x ≡ Err wanted → Err (NoRoom wanted) ≡ says_with s d bits probes r
    unfolding says_with if_room
    message_short wanted h = rw (room_is _ h)

    module _ (room : x ≡ Ok tt) (y : Result Unit ℕ) (z : y ≡ session_room d.heads d.sent r) where
      pub lists_short : (wanted : ℕ) → y ≡ Err wanted → Err (NoRoom wanted) ≡ says_with s d bits probes r
      unfolding says_with if_room
      lists_short wanted h = let k : session_room d.heads d.sent r ≡ Err wanted = sym z ∙ h in rw (room_is _ room, k)

      pub all_enough : (n : Session) → y ≡ Ok tt → n ≡ planned_counts s d.heads d.sent → Ok (Says p n) ≡ says_with s d bits probes r
      unfolding says_with if_room
      all_enough n h c = let k : session_room d.heads d.sent r ≡ (Ok tt) = sym z ∙ h in rw (room_is _ room, k, e, c)

-- the stages over plain tests
abbrev staged : Bool → Bool → Bool → Bool → Result PlanAnswer Refusal → Result PlanAnswer Refusal → Result PlanAnswer Refusal
staged many unknown silent full reset says =
    cond many (Err (PastSize 0)) (cond unknown reset (cond silent (Ok Silent) (cond full (Err (PastSize 0)) says)))

module _ (many unknown silent full : Bool) (reset says : Result PlanAnswer Refusal) where
  at_reset : {x : Result PlanAnswer Refusal} → many ≡ false → unknown ≡ true → x ≡ reset → x ≡ staged many unknown silent full reset says
  at_reset a b e = rw (a, b) e

  at_silence : many ≡ false → unknown ≡ false → silent ≡ true → (Ok Silent) ≡ staged many unknown silent full reset says
  at_silence a b c = rw (a, b, c)

  at_sent : many ≡ false → unknown ≡ false → silent ≡ false → full ≡ true → Err (PastSize 0) ≡ staged many unknown silent full reset says
  at_sent a b c d = rw (a, b, c, d)

  at_message : {x : Result PlanAnswer Refusal} → many ≡ false → unknown ≡ false → silent ≡ false → full ≡ false → x ≡ says → x ≡ staged many unknown silent full reset says
  at_message a b c d e = rw (a, b, c, d) e

-- a pick that isn't accepted, and one that is
module _ (k : Result Unit ℕ) (a : Result PlanAnswer Refusal) where
  pub pick_breaks : (place : ℕ) → k ≡ Err place → Err (BadPick place) ≡ unless_breaks k a
  unfolding unless_breaks
  pick_breaks place e = rw e

  pub pick_fine : {x : Result PlanAnswer Refusal} → k ≡ Ok tt → x ≡ a → x ≡ unless_breaks k a
  unfolding unless_breaks
  pick_fine e f = rw e f

module _ (s : Session) (d : Draft) (bits probes : ℕ) (r : Rooms) where
  pub needs_many : sizes.hashes < d.need → Err (PastSize 0) ≡ decided s d bits probes r
  unfolding decided
  needs_many h = rw (lt-ltb _ _ h)

  module _ (few : d.need ≤ sizes.hashes) where
    pub is_unknown : {x : Result PlanAnswer Refusal} → d.unknown ≡ true → x ≡ if_room Err (message_room (reset_stated d.heads) r) (Ok (Reset (reset_stated d.heads)))
        → x ≡ decided s d bits probes r
    unfolding decided
    is_unknown u e = at_reset (ltb sizes.hashes d.need) d.unknown d.silent (ltb sizes.sent_hashes d.sent) _ _ (le-ltb _ _ few) u e

    module _ (known : d.unknown ≡ false) where
      pub is_silent : d.silent ≡ true → (Ok Silent) ≡ decided s d bits probes r
      unfolding decided
      is_silent q = at_silence (ltb sizes.hashes d.need) d.unknown d.silent (ltb sizes.sent_hashes d.sent) _ _ (le-ltb _ _ few) known q

      module _ (loud : d.silent ≡ false) where
        pub sent_many : sizes.sent_hashes < d.sent → Err (PastSize 0) ≡ decided s d bits probes r
        unfolding decided
        sent_many h =
            at_sent (ltb sizes.hashes d.need) d.unknown d.silent (ltb sizes.sent_hashes d.sent) _ _ (le-ltb _ _ few) known loud
            (lt-ltb _ _ h)

        pub is_said : {x : Result PlanAnswer Refusal} → d.sent ≤ sizes.sent_hashes → x ≡ unless_breaks d.picked (says_with s d bits probes r) → x ≡ decided s d bits probes r
        unfolding decided
        is_said h e =
            at_message (ltb sizes.hashes d.need) d.unknown d.silent (ltb sizes.sent_hashes d.sent) _ _ (le-ltb _ _ few) known loud
            (le-ltb _ _ h) e

-- ---- what an answer puts

module _ (a : Result PlanAnswer Refusal) where
  pub refused_puts : (r : Refusal) → a ≡ Err r → no_puts ≡ puts_of a
  unfolding puts_of
  refused_puts r e = rw e

  pub silent_puts : a ≡ Ok Silent → no_puts ≡ puts_of a
  unfolding puts_of
  silent_puts e = rw e

  pub reset_puts : (p : Stated) {x : Puts} → a ≡ Ok (Reset p) → x ≡ puts_for p 0 0 → x ≡ puts_of a
  unfolding puts_of
  reset_puts p e q = rw e q

  pub says_puts : (p : Stated) (n : Session) {x : Puts} → a ≡ Ok (Says p n) → x ≡ puts_for p n.last_sent_heads n.sent_hashes → x ≡ puts_of a
  unfolding puts_of
  says_puts p n e q = rw e q
