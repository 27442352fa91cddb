-- What is heard of a plan whose message crosses as bytes: all that it says, but a filter over no rows, which is written as no bytes, is heard as the
-- default. Nobody sees the difference, since such a filter contains nothing. Assumes nothing.
use Prim.Native.Nat.{ℕ, suc, ◌≤◌, ◌<◌}
use mathlib.Core.Bool.{Bool, true, false, not, ◌&&◌}
use mathlib.Core.List.{List, [], ◌∷◌}
use mathlib.Core.Path.{◌≡◌, refl, sym, ap, ap₂, ◌∙◌, fun_ext}
use native.Mathlib.Omega.{arith}
use borrow.Author.Tests.{eqb-false, ltb-true, ltb-false}
use lib.Dec.{eqb, ltb}
use lib.ListN.{length}
use Rattle.bloom.proofs.Rules.{rules_none}
use Rattle.bloom.specs.Filter.{Filter, filter_of4, filter_bytes, default_bits, default_probes}
use Rattle.bloom.specs.Have.{Have}
use Rattle.message_read.proofs.RoundTrip.{message_there_and_back}
use Rattle.table_graph.specs.Graph.{below_row}
use Rattle.session.proofs.ReceiveLaws.{bytes_read}
use Rattle.session.specs.Receive.{said_in, receive, receive_bytes}
use Rattle.send_members.specs.Internal.Members.{last_syncs, filters, candidate, missed, in_the_s, the_s}
use Rattle.message.specs.Message.{Message, joined, counted, have_bytes, message_bytes}
use Rattle.message.specs.Sound.{Each, SoundHave, SoundMessage, FilterReadsBack, HaveReadsBack}
use Rattle.hash_order.specs.Order.{member}
use Rattle.hash_order.specs.Reach.{reach}
use Rattle.bloom_probe.specs.Contains.{contains, any_contains}
use Rattle.rules.proofs.Cases.{split}
use Rattle.send.specs.ToSend.{to_send, to_send_less}
use Rattle.session.specs.Plan.{Plan}
use Rattle.session_state.specs.Session.{State}
use Rattle.table.specs.Table.{Row, hash_of, deps_of, rows_where}
use Rattle.session.specs.Written.{Host, message_for, heard_filter, heard_have, haves_heard, heard_said}
use Rattle.session.proofs.WrittenLaws.{chunks_carried}

-- ---- filters over no rows

heard_default : (f : Filter) → eqb f.entries 0 ≡ true → heard_filter f ≡ filter_of4 0 default_bits default_probes []
unfolding heard_filter
heard_default f e = rw e

heard_same : (f : Filter) → eqb f.entries 0 ≡ false → heard_filter f ≡ f
unfolding heard_filter
heard_same f e = rw e

-- it contains what was in it
pub heard_contains : (f : Filter) (h : ℕ) → contains (heard_filter f) h ≡ contains f h
unfolding contains
heard_contains f h = split (eqb f.entries 0) (λ e. rw (heard_default f e, e)) (λ e. rw (heard_same f e))

heard_filter_bytes : (f : Filter) → filter_bytes (heard_filter f) ≡ filter_bytes f
unfolding filter_bytes
heard_filter_bytes f = split (eqb f.entries 0) (λ e. rw (heard_default f e, e)) (λ e. rw (heard_same f e))

pub some_entries : (n : ℕ) → eqb n 0 ≡ false → 0 < n
some_entries n e = let d = eqb-false n 0 e in split (ltb 0 n) (λ a. ltb-true 0 n a) (λ a. absurd (d (omega (arith, ltb-false 0 n a))))

heard_said_lem : (f : Filter) → FilterReadsBack (heard_filter f)
heard_said_lem f =
    split (eqb f.entries 0)
    (λ e. rw (heard_default f e) (FilterReadsBack.default refl))
    (λ e. rw (heard_same f e) (FilterReadsBack.entries (some_entries f.entries e)))

heard_sound : (v : Have) → SoundHave v → SoundHave (heard_have v)
heard_sound v s =
    split (eqb v.filter.entries 0)
    (λ e.
    rw (heard_default v.filter e)
    (record { last_sync = s.last_sync; filter = rules_none default_bits default_probes (omega arith) (omega arith) }))
    (λ e. rw (heard_same v.filter e) (record { last_sync = s.last_sync; filter = s.filter }))

-- ---- the message as heard

abbrev pub heard_message : Message → Message
heard_message m =
    record {
      version = m.version;
      heads = m.heads;
      need = m.need;
      haves = haves_heard m.haves;
      chunks = m.chunks;
      flags = m.flags;
    }

pub length_heard : (vs : List Have) → length (haves_heard vs) ≡ length vs
unfolding haves_heard
length_heard [] = refl
length_heard (v ∷ vs) = ap suc (length_heard vs)

heard_joined : (vs : List Have) → joined have_bytes (haves_heard vs) ≡ joined have_bytes vs
unfolding haves_heard joined have_bytes
heard_joined [] = refl
heard_joined (v ∷ vs) = rw (heard_filter_bytes v.filter, heard_joined vs)

-- the same bytes are written for it
pub heard_bytes : (m : Message) → message_bytes (heard_message m) ≡ message_bytes m
unfolding message_bytes counted
heard_bytes m = rw (length_heard m.haves, heard_joined m.haves)

all_said : (vs : List Have) → Each HaveReadsBack (haves_heard vs)
unfolding Each haves_heard
all_said [] = tt
all_said (v ∷ vs) = (heard_said_lem v.filter, all_said vs)

pub all_sound : (vs : List Have) → Each SoundHave vs → Each SoundHave (haves_heard vs)
unfolding Each haves_heard
all_sound [] e = tt
all_sound (v ∷ vs) e = (heard_sound v e.0, all_sound vs e.1)

message_sound : (m : Message) → SoundMessage m → SoundMessage (heard_message m)
message_sound m s =
    record {
      heads = s.heads;
      need = s.need;
      few = rw (length_heard m.haves) s.few;
      haves = all_sound m.haves s.haves;
      chunks = s.chunks;
      size = rw (heard_bytes m) s.size;
    }

-- ---- what is heard of a plan

said_heard : (host : Host) (p : Plan) → said_in (heard_message (message_for host p)) ≡ heard_said p
unfolding said_in message_for heard_said
said_heard host p = rw (chunks_carried host p)

-- receiving the bytes of a plan is receiving what is heard of it
pub crosses : (host : Host) (p : Plan) → SoundMessage (message_for host p) → p.flags.0 < 0x80
    → (loaded : Bool) (before : ℕ) (t : List Row) (s : State)
    → before ≤ length t
    → receive_bytes loaded before t s (message_bytes (message_for host p)) ≡ receive loaded before t s (heard_said p)
unfolding message_for
crosses host p sound flags loaded before t s inside =
    let m : Message = message_for host p in
    let back =
    message_there_and_back (message_bytes m) (heard_message m) (sym (heard_bytes m)) (message_sound m sound)
    (record { filters = all_said m.haves; flags = flags })
    in
    bytes_read loaded before t s (message_bytes m) inside back.places back.haves back.chunks back.is
    ∙ ap (λ x. receive loaded before t s (said_in x)) back.says
    ∙ ap (receive loaded before t s) (said_heard host p)

-- ---- selection doesn't see the difference

heard_syncs : (vs : List Have) → last_syncs (haves_heard vs) ≡ last_syncs vs
unfolding last_syncs haves_heard
heard_syncs [] = refl
heard_syncs (v ∷ vs) = rw (heard_syncs vs)

heard_any : (vs : List Have) (h : ℕ) → any_contains (filters (haves_heard vs)) h ≡ any_contains (filters vs) h
unfolding filters any_contains haves_heard
heard_any [] h = refl
heard_any (v ∷ vs) h = rw (heard_contains v.filter h, heard_any vs h)

-- S, by what the haves name and what their filters contain
abbrev selected : List Row → List ℕ → (ℕ → Bool) → List ℕ
selected t l c =
    rows_where t
    (λ i. reach (length t) (λ k. not (below_row t l k) && not (c (hash_of t k))) (λ k j. not (below_row t l j) && member k (deps_of t j)) i)

selected_is : (t : List Row) (vs : List Have) → the_s t vs ≡ selected t (last_syncs vs) (λ h. any_contains (filters vs) h)
unfolding the_s in_the_s missed candidate
selected_is t vs = refl

heard_s : (t : List Row) (vs : List Have) → the_s t (haves_heard vs) ≡ the_s t vs
heard_s t vs =
    selected_is t (haves_heard vs)
    ∙ ap₂ (selected t) (heard_syncs vs) (fun_ext (heard_any vs))
    ∙ sym (selected_is t vs)

heard_send : (t : List Row) (vs : List Have) (need : List ℕ) → to_send t (haves_heard vs) need ≡ to_send t vs need
unfolding to_send haves_heard
heard_send t [] need = refl
heard_send t (v ∷ vs) need = rw (heard_s t (v ∷ vs))

pub heard_selects : (t : List Row) (vs : List Have) (need sent : List ℕ) → to_send_less t (haves_heard vs) need sent ≡ to_send_less t vs need sent
unfolding to_send_less
heard_selects t vs need sent = rw (heard_send t vs need)
