-- What internal contracts speak of: a plan as marks and numbers. No rule of 01 stands here.
use Rattle.std.specs.Prelude.{ℕ, ◌+◌, ◌*◌, ◌≤◌, Bool, true, false, cond, ◌&&◌, ◌||◌, List, [], ◌++◌, ◌≡◌, length, Result, Ok}
use Rattle.plan_decide.specs.declared.decide.Draft.{Draft}
use Rattle.table_graph.specs.Graph.{heads, beyond}
use Rattle.table_graph.specs.Internal.Marks.{Blank, marked, picked}
use Rattle.table_index.specs.Index.{Indexed}
use Rattle.session_check.specs.SessionGood.{heard_good, haves_good, lent_of}
use Rattle.hash_lists.specs.Lists.{same}
use Rattle.hash_order.specs.Order.{member, ascend, ascends}
use Rattle.plan_parts.specs.Internal.PlanParts.{HaveCounted, BlankBody, BodyChosen, FreshMarked}
use Rattle.plan_parts.specs.declared.need.Asked.{Asked}
use Rattle.rules.specs.Hash.{hashes_at}
use Rattle.rules.specs.Sizes.{sizes}
use Rattle.send.specs.Internal.Chosen.{chosen_by}
use Rattle.pick.specs.Picking.{pick_checked}
use Rattle.pick.specs.declared.radio.Radio.{Radio}
use Rattle.session.specs.Plan.{Body, heard_as, unknown_sync, list_of, body_of, empty, silence, sent_after, is_fine}
use Rattle.session_state.specs.Session.{State}
use Rattle.session_state.specs.Value.{heard_hashes, state_of}
use Rattle.session_state.specs.declared.session.Session.{Session}
use Rattle.table.specs.Table.{Row, rows}
use Rattle.plan_count.specs.declared.carried.Carried.{Carried}

-- ---- what is carried

-- What the body is chosen from was tested, and the hashes sent ascend.
pub record BodyReady (table index : List ℕ) (n : ℕ) (s : Session) (their_need haves bytes sent : List ℕ) : Type 0 where
  pub rows : Indexed table index n
  pub need : heard_good their_need s.their_need ≡ true
  pub have : haves_good bytes haves s.their_have ≡ true
  pub there : sizes.hash * s.sent_hashes ≤ length sent
  pub few : s.sent_hashes ≤ sizes.sent_hashes
  pub ascending : ascends (hashes_at sent 0 s.sent_hashes) ≡ true

-- What goes in a message, of the lists that it is chosen from.
abbrev pub carried_body : List Row → Session → List ℕ → List ℕ → List ℕ → List ℕ → List ℕ → Body
carried_body t s their_heads their_need haves bytes sent = body_of t (state_of s (lent_of [] [] their_heads their_need haves bytes sent))

-- A body is chosen, and the rows of it that weren't sent are marked.
pub record BodyCounted (t : List Row) (n : ℕ) (b : Body) (need sent : List ℕ) (marks needs fresh : List Bool) (k : Carried) : Type 0 where
  pub row_long : n ≤ length marks
  pub need_long : length need ≤ length needs
  pub body : BodyChosen b t marks need needs k.body
  pub new : FreshMarked t n b.hashes sent fresh k.sent
  pub unpicked : k.picked ≡ Ok tt

-- What goes of a body: all of it, or with a radio that is limited the document whole and else the pick.
unfoldable pub going_of : Radio → Body → List ℕ → Body
going_of r b pick = cond r.limited (cond b.document b (list_of pick)) b

-- How the pick is found; none is looked at where no radio is limited, and beside a document.
unfoldable pub found_of : Radio → List Row → Body → List ℕ → List ℕ → Result Unit ℕ
found_of r t b rowSizes pick = cond r.limited (cond b.document (Ok tt) (pick_checked t b.hashes rowSizes r.budget pick)) (Ok tt)

-- What goes is counted, and, unless its pick breaks a rule, marked.
pub record BodyGoes (t : List Row) (n : ℕ) (b : Body) (c : Result Unit ℕ) (need sent : List ℕ) (marks needs fresh : List Bool) (k : Carried) : Type 0 where
  pub row_long : n ≤ length marks
  pub need_long : length need ≤ length needs
  pub fresh_long : n ≤ length fresh
  pub document : k.body.document ≡ b.document
  pub hashes : k.body.hashes ≡ length b.hashes
  pub picked : k.picked ≡ c
  pub many : k.sent ≡ length (ascend (b.hashes ++ sent))
  pub list : c ≡ Ok tt → chosen_by t marks need needs ≡ b.hashes
  pub new : c ≡ Ok tt → FreshMarked t n b.hashes sent fresh k.sent

-- What a pick is checked beside: rows, hashes sent that ascend, no more of the pick than a list may have, and room for marks.
pub record PickReady (table index : List ℕ) (n pickLong : ℕ) (sent : List ℕ) (before asked row_long need_long fresh_long : ℕ) : Type 0 where
  pub rows : Indexed table index n
  pub few : pickLong ≤ sizes.hashes * sizes.hash
  pub there : sizes.hash * before ≤ length sent
  pub sent_few : before ≤ sizes.sent_hashes
  pub ascending : ascends (hashes_at sent 0 before) ≡ true
  pub row_room : n ≤ row_long
  pub need_room : asked ≤ need_long
  pub fresh_room : n ≤ fresh_long

-- No hash of a body that goes as a list was sent.
abbrev pub Unsent : Body → List ℕ → Type 0
Unsent b sent = b.document ≡ false → (h : ℕ) → member h b.hashes ≡ true → member h sent ≡ false

-- ---- silence

-- Nothing is to be said with these heads, where something goes or nothing.
unfoldable pub quiet_with : Session → List ℕ → List ℕ → List ℕ → Bool → Bool
quiet_with s last_sent their_heads ours nothing =
    (same (hashes_at last_sent 0 s.last_sent_heads) ours && s.have_responded)
    && (((heard_as ours (heard_hashes their_heads s.their_heads) || s.read_only) && nothing) || s.in_flight)

-- ---- the whole plan

-- Marks for each row and each need, none of them set.
pub record BlankMarks (n count : ℕ) (headMarks haveMarks marks needs fresh : List Bool) : Type 0 where
  pub head_long : n ≤ length headMarks
  pub no_head : Blank n headMarks
  pub have_long : n ≤ length haveMarks
  pub no_have : Blank n haveMarks
  pub body : BlankBody n count marks needs
  pub fresh_long : n ≤ length fresh
  pub no_fresh : Blank n fresh

-- The marks name the parts of a plan with what goes, and its numbers count them.
pub record PlanMarked (t : List Row) (n : ℕ) (s : State) (b : Body) (c : Result Unit ℕ) (need : List ℕ) (headMarks haveMarks marks needs fresh : List Bool)
    (d : Draft) : Type 0
  where
    pub head_long : n ≤ length headMarks
    pub heads : ascend (picked (rows t) headMarks) ≡ heads t
    pub heads_many : d.heads ≡ marked n headMarks
    pub have : HaveCounted t n d.gives s.shared_heads haveMarks d.entries
    pub row_long : n ≤ length marks
    pub need_long : length need ≤ length needs
    pub fresh_long : n ≤ length fresh
    pub few : length b.hashes ≤ sizes.hashes_to_send
    pub small : d.sent ≤ sizes.sent_hashes + sizes.rows
    pub list : c ≡ Ok tt → chosen_by t marks need needs ≡ b.hashes
    pub new : c ≡ Ok tt → FreshMarked t n b.hashes s.sent_hashes fresh d.sent

-- The numbers of a plan that asks for this, with what goes.
pub record DraftCounted (t : List Row) (s : State) (b : Body) (c : Result Unit ℕ) (a : Asked) (d : Draft) : Type 0 where
  pub heads : d.heads ≡ length (heads t)
  pub need : d.need ≡ a.count
  pub unknown : d.unknown ≡ unknown_sync t s.their_have
  pub gives : d.gives ≡ a.heard
  pub entries : d.gives ≡ true → d.entries ≡ length (beyond t s.shared_heads)
  pub none : d.gives ≡ false → d.entries ≡ 0
  pub document : d.body.document ≡ b.document
  pub hashes : d.body.hashes ≡ length b.hashes
  pub picked : d.picked ≡ c
  pub silent : d.silent ≡ silence t s (is_fine c && empty b.hashes)
  pub sent : d.sent ≡ length (sent_after s b)
