-- Messages in turn are two runs of the walk's rounds (walk Rounds), one into each end, and one invariant serves both. Before a message the run into its
-- speaker is complete. The run into its hearer lacks the round that this message answers: what the speaker heard last is what the hearer stated, over the
-- heads that it had heard when it spoke. So a message is a round of the run into its hearer, in which the speaker answers; and what it states opens the next
-- round into the speaker. Only before the first message was nothing heard: then nothing is listed, and loading nothing changes nothing. Assumes nothing.
use Prim.Native.Nat.{ℕ, suc, ◌≤◌, ◌<◌}
use mathlib.Core.Bool.{Bool, true, false, cond, not, ◌||◌}
use mathlib.Core.List.{List, [], ◌∷◌, ◌++◌}
use mathlib.Core.Option.{some}
use mathlib.Core.Path.{◌≡◌, refl, sym, ap, ap₂, subst, ◌∙◌}
use native.Mathlib.Omega.{arith}
use Rattle.table_graph.proofs.HeadLaws.{head_held}
use Rattle.table_graph.specs.Graph.{heads}
use Rattle.send_members.specs.Internal.Members.{last_syncs}
use Rattle.waiting_missing.specs.Missing.{missing}
use Rattle.hash_order.proofs.KeepLaws.{no_members, often_some}
use Rattle.hash_order.proofs.OrderLaws.{member_none, member_here}
use Rattle.hash_order.specs.Order.{member, often}
use Rattle.rules.proofs.Cases.{either, or_left, or_right, true_false}
use Rattle.send.specs.ToSend.{to_send_less}
use Rattle.table.specs.Table.{Row, held}
use Rattle.waiting.specs.Waiting.{Waiting, waiting}
use Rattle.walk.proofs.Loaded.{loads_more}
use Rattle.walk.proofs.Rounds.{Step, HeardPart, Runs, RunStands, stands, step_out}
use Rattle.walk.specs.Round.{Part, Gives, trim, Picks, Settles, Loads}
use Rattle.walk.specs.Walk.{At}
use Rattle.walk_ends.specs.Ends.{StatedWords, End, end_starting, heads_heard, list_for, end_spoken, Turn, Turns, first_speaks}
use Rattle.walk_ends.specs.Joint.{Joint}

-- ---- nothing comes

-- of nothing nothing is picked
no_pick : (r : List ℕ) → Picks [] r → r ≡ []
unfolding often
no_pick r p = no_members r (λ h m. omega (arith, often_some h r m, p.few h))

none_waits : (w : List Waiting) → ((h : ℕ) → member h (waiting w) ≡ false) → w ≡ []
unfolding waiting
none_waits [] f = refl
none_waits (r ∷ w) f = absurd (true_false (member r.hash (waiting (r ∷ w))) (member_here r.hash (waiting w)) (f r.hash))

none_moves : {b b' : List Row} {w w' : List Waiting} → Settles b w b' w' → ((h : ℕ) → member h (waiting w) ≡ false) → (b' ≡ b) × (w' ≡ w)
none_moves (Settles.done f) e = (refl, refl)
none_moves (Settles.step m s) e = absurd (true_false (member m.hash (waiting _)) m.waits (e m.hash))

-- where nothing waits and nothing comes, nothing changes
loads_nothing : {J b b' : List Row} {w' : List Waiting} → Loads J b [] [] b' w' → (b' ≡ b) × (w' ≡ [])
unfolding waiting member
loads_nothing l =
    let none : (h : ℕ) → member h (waiting l.joined) ≡ false = λ h. l.joins.are h in
    let s = none_moves l.settles none in
    (s.0, s.1 ∙ none_waits l.joined none)

-- ---- before a message

-- Where a run into an end stands: its table and what waits beside it, and the other's T and names.
abbrev pub at : List Row → List Waiting → List ℕ → List ℕ → At
at t w sent named = record { table = t; waits = w; sent = sent; named = named }

-- What f stated when it spoke, which e heard: a round into f, opened over the heads l, that e is to answer. T stood at `sent` then.
pub record Opened (J F : List Row) (p m : ℕ) (e f : End) : Type 0 where
  pub says : StatedWords
  pub l : List ℕ
  pub sent : List ℕ
  pub run : Runs J F p m (at f.table f.waits sent e.named)
  pub heard_is : e.heard ≡ some says
  pub heads_are : says.heads ≡ heads f.table
  pub need_is : says.need ≡ missing f.table f.waits l
  pub gives : Gives f.table f.waits l says.haves
  pub last : (h : ℕ) → member h (last_syncs says.haves) ≡ true → held e.table h ≡ true
  pub sent_is : e.sent ≡ trim e.table (heads f.table) sent
  pub known : (h : ℕ) → member h l ≡ true → held e.table h ≡ true
  pub hears : p ≤ m → HeardPart J F l

-- The run into f, which has come so far when e has spoken: from the start, when nothing was heard and heads aren't due in the run into e; or one round on.
pub data Into (J E : List Row) (q n : ℕ) (F : List Row) (p : ℕ) : ℕ → End → End → Type 0 where
  first : n < q → Into J E q n F p 0 (end_starting E) (end_starting F)
  later : {m : ℕ} {e f : End} → Opened J F p m e f → Into J E q n F p (suc m) e f

-- Before a message from e to f, which started from E and F.
pub record Stood (J E : List Row) (q n : ℕ) (F : List Row) (p m : ℕ) (e f : End) : Type 0 where
  pub joint : Joint J E F
  pub run : Runs J E q n (at e.table e.waits f.sent f.named)
  pub into : Into J E q n F p m e f

-- It doesn't matter which of the two is named first.
joint_swap : {J X Y : List Row} → Joint J X Y → Joint J Y X
joint_swap {J} {X} {Y} j =
    record {
      good = j.good;
      part_x = j.part_y;
      part_y = j.part_x;
      only = λ h m. either (held X h) (held Y h) (j.only h m) (or_right (held Y h) (held X h)) (or_left (held Y h) (held X h));
    }

-- ---- what follows from it

-- The run into the hearer, with what T was: it lacks at most one round.
pub record HearerRuns (J F : List Row) (p m : ℕ) (e f : End) : Type 0 where
  pub k : ℕ
  pub far : m ≤ suc k
  pub sent : List ℕ
  pub run : Runs J F p k (at f.table f.waits sent e.named)

hearer_runs : {J E : List Row} {q n : ℕ} {F : List Row} {p m : ℕ} {e f : End} → Into J E q n F p m e f → HearerRuns J F p m e f
hearer_runs (first d) = record { k = 0; far = omega arith; sent = []; run = Runs.start }
hearer_runs (later {m} o) = record { k = m; far = omega arith; sent = o.sent; run = o.run }

module _ {J E : List Row} {q n : ℕ} {F : List Row} {p m : ℕ} {e f : End} (s : Stood J E q n F p m e f) where
  -- how the run into each end stands, so that both are parts
  pub speaker_stands : RunStands J E q n (at e.table e.waits f.sent f.named)
  speaker_stands = stands s.joint.good s.joint.part_x q s.run

  pub speaker_part : Part J e.table
  speaker_part = speaker_stands.between.beside.part

  pub hearer : HearerRuns J F p m e f
  hearer = hearer_runs s.into

  pub hearer_stands : RunStands J F p hearer.k (at f.table f.waits hearer.sent e.named)
  hearer_stands = stands s.joint.good s.joint.part_y p hearer.run

  pub hearer_part : Part J f.table
  hearer_part = hearer_stands.between.beside.part

  -- every row is held by one of the two
  pub covered : (h : ℕ) → held J h ≡ true → (held e.table h || held f.table h) ≡ true
  covered h a =
      either (held E h) (held F h) (s.joint.only h a)
      (λ k. or_left (held e.table h) (held f.table h) (speaker_stands.kept h k))
      (λ k. or_right (held e.table h) (held f.table h) (hearer_stands.kept h k))

  -- heads that the speaker has heard are held by the hearer, and are a part's once they are due
  heard_known : {m : ℕ} {e f : End} → Part J f.table → Into J E q n F p m e f → (h : ℕ) → member h (heads_heard e.heard) ≡ true → held f.table h ≡ true
  heard_known part (first d) h a = absurd (member_none h a)
  heard_known {m} {e} {f} part (later o) h a =
      head_held f.table part.good h (subst (λ l. member h l ≡ true) (ap heads_heard o.heard_is ∙ o.heads_are) a)

  heard_part : {m : ℕ} {e f : End} → Part J f.table → ((h : ℕ) → held F h ≡ true → held f.table h ≡ true) → Into J E q n F p m e f
      → q ≤ n
      → HeardPart J E (heads_heard e.heard)
  heard_part part kept (first d) due = absurd (omega arith)
  heard_part {m} {e} {f} part kept (later o) due =
      record {
        said = f.table;
        part = part;
        are = ap heads_heard o.heard_is ∙ o.heads_are;
        rich =
            λ h a.
            either (held E h) (held F h) (s.joint.only h a)
            (or_left (held E h) (held f.table h))
            (λ k. or_right (held E h) (held f.table h) (kept h k));
      }

-- ---- a message

module _ {J E F : List Row} {p : ℕ} (joint : Joint J E F) {e f : End} (part : Part J e.table) {list : List ℕ}
    (picks : Picks (list_for e.table e.sent e.heard) list) {b : List Row} {w : List Waiting} (loads : Loads J f.table f.waits list b w) where
  -- it answers the round that its hearer opened
  answers : {m : ℕ} (o : Opened J F p m e f)
      → Step J e.table o.l (at f.table f.waits o.sent e.named) o.says.haves list (at b w (e.sent ++ list) (e.named ++ list))
  unfolding list_for
  answers o =
      record {
        sender = part;
        known = o.known;
        gives = o.gives;
        last = o.last;
        picks =
            subst (λ l. Picks l list)
            (ap (list_for e.table e.sent) o.heard_is ∙ ap₂ (λ nd T. to_send_less e.table o.says.haves nd T) o.need_is o.sent_is)
            picks;
        loads = loads;
        sends = ap (λ (l : List ℕ). l ++ list) o.sent_is;
        names = refl;
      }

  opened_new : {m : ℕ} → Opened J F p m e f → (h : ℕ) → member h list ≡ true → held f.table h ≡ false
  opened_new o = step_out joint.good (answers o) (stands joint.good joint.part_y p o.run).between

-- so the run into the hearer goes on
hearer_goes : {J E : List Row} {q n : ℕ} {F : List Row} {p m : ℕ} {e f : End} → Joint J E F → Part J e.table → Into J E q n F p m e f
    → (list : List ℕ)
    → Picks (list_for e.table e.sent e.heard) list
    → (b : List Row) (w : List Waiting)
    → Loads J f.table f.waits list b w
    → Runs J F p m (at b w (e.sent ++ list) (e.named ++ list))
unfolding list_for
hearer_goes {J} {E} {q} {n} {F} {p} joint part (first d) list picks b w loads =
    let none : list ≡ [] = no_pick list picks in
    let l = loads_nothing (subst (λ r. Loads J F [] r b w) none loads) in
    subst (Runs J F p 0) (sym (ap₂ (λ t v. at t v list list) l.0 l.1 ∙ ap₂ (at F []) none none)) Runs.start
hearer_goes {J} {E} {q} {n} {F} {p} {m} {e} joint part (later o) list picks b w loads =
    Runs.round e.table o.l o.says.haves list o.run (answers joint part picks loads o) o.hears

-- and no row goes to an end that has it
into_new : {J E : List Row} {q n : ℕ} {F : List Row} {p m : ℕ} {e f : End} → Joint J E F → Part J e.table → Into J E q n F p m e f
    → (list : List ℕ)
    → Picks (list_for e.table e.sent e.heard) list
    → (b : List Row) (w : List Waiting)
    → Loads J f.table f.waits list b w
    → (h : ℕ)
    → member h list ≡ true
    → held f.table h ≡ false
unfolding list_for
into_new joint part (first d) list picks b w loads h a = absurd (member_none h (subst (λ l. member h l ≡ true) (no_pick list picks) a))
into_new joint part (later o) list picks b w loads h a = opened_new joint part picks loads o h a

module _ {J E : List Row} {q n : ℕ} {F : List Row} {p m : ℕ} {e f : End} (s : Stood J E q n F p m e f) {says : StatedWords} {list : List ℕ} {e' f' : End}
    (t : Turn J e f says list e' f') where
  -- what it states opens a round into its speaker
  opens : Opened J E q n f' (end_spoken e list)
  opens =
      record {
        says = says;
        l = heads_heard e.heard;
        sent = f.sent;
        run = subst (λ l. Runs J E q n (at e.table e.waits f.sent l)) (ap (λ (z : End). z.named) (sym t.hears.after)) s.run;
        heard_is = ap (λ (z : End). z.heard) t.hears.after;
        heads_are = t.speaks.heads_are;
        need_is = t.speaks.need_is;
        gives = t.speaks.gives;
        last = λ h a. loads_more t.hears.loads h (t.both h a);
        sent_is = ap (λ (z : End). z.sent) t.hears.after ∙ ap (λ (l : List ℕ). trim f'.table l f.sent) t.speaks.heads_are;
        known = λ h a. loads_more t.hears.loads h (heard_known s (hearer_part s) s.into h a);
        hears = heard_part s (hearer_part s) (hearer_stands s).kept s.into;
      }

  -- The same stands after a message, with the ends changed over.
  pub next : Stood J F p m E q (suc n) f' e'
  next =
      subst (Stood J F p m E q (suc n) f') (sym t.speaks.after)
      (record {
        joint = joint_swap s.joint;
        run = hearer_goes s.joint (speaker_part s) s.into list t.speaks.picks f'.table f'.waits t.hears.loads;
        into = later opens;
      })

  -- A message names no row that its hearer holds.
  pub next_new : (h : ℕ) → member h list ≡ true → held f.table h ≡ false
  next_new = into_new s.joint (speaker_part s) s.into list t.speaks.picks f'.table f'.waits t.hears.loads

-- ---- messages in turn

-- Some run into each end stands so, after k messages; the speaker started from X just if X speaks next.
pub record Somewhere (J X Y : List Row) (k : ℕ) (e f : End) : Type 0 where
  pub E : List Row
  pub q : ℕ
  pub n : ℕ
  pub F : List Row
  pub p : ℕ
  pub m : ℕ
  pub stood : Stood J E q n F p m e f
  pub speaker_from : E ≡ cond (first_speaks k) X Y
  pub hearer_from : F ≡ cond (first_speaks k) Y X

cond_not : (b : Bool) (X Y : List Row) → cond b X Y ≡ cond (not b) Y X
cond_not true X Y = refl
cond_not false X Y = refl

module _ {J X Y : List Row} (joint : Joint J X Y) where
  -- X's run hears heads from its second round on, Y's from its first.
  pub starts : Stood J X 1 0 Y 0 0 (end_starting X) (end_starting Y)
  starts = record { joint = joint; run = Runs.start; into = first (omega arith) }

  pub somewhere : {k : ℕ} {e f : End} → Turns J X Y k e f → Somewhere J X Y k e f
  unfolding first_speaks
  somewhere Turns.start = record { E = _; q = _; n = _; F = _; p = _; m = _; stood = starts; speaker_from = refl; hearer_from = refl }
  somewhere (Turns.turn {n} says list ts t) =
      let before = somewhere ts in
      record {
        E = _;
        q = _;
        n = _;
        F = _;
        p = _;
        m = _;
        stood = next before.stood t;
        speaker_from = before.hearer_from ∙ cond_not (first_speaks n) Y X;
        hearer_from = before.speaker_from ∙ cond_not (first_speaks n) X Y;
      }

  module _ {k : ℕ} {e f : End} (ts : Turns J X Y k e f) where
    -- Both ends stay parts of the joint set.
    pub turns_parts : Part J e.table × Part J f.table
    turns_parts = (speaker_part (somewhere ts).stood, hearer_part (somewhere ts).stood)

    -- No message names a row that its hearer holds.
    pub turns_new : {says : StatedWords} {list : List ℕ} {e' f' : End} → Turn J e f says list e' f' → (h : ℕ) → member h list ≡ true → held f.table h ≡ false
    turns_new t = next_new (somewhere ts).stood t

    -- Every row of the joint set is held by one of the two.
    pub turns_cover : (h : ℕ) → held J h ≡ true → (held e.table h || held f.table h) ≡ true
    turns_cover = covered (somewhere ts).stood
