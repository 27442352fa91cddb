-- What internal contracts speak of: parts of a plan as marks and numbers. No rule of 01 stands here.
use Rattle.std.specs.Prelude.{ℕ, ◌+◌, ◌≤◌, ◌<◌, Bool, true, false, not, ◌&&◌, List, ◌++◌, ◌≡◌, length}
use Rattle.std.proofs.Math.Option.{Option}
use Rattle.table_graph.specs.Graph.{beyond}
use Rattle.table_graph.specs.Internal.Marks.{Marks, Blank, marked, picked}
use Rattle.hash_order.specs.Order.{member, every, ascend}
use Rattle.hash_refs.specs.Internal.Refs.{found_by, FoundRefs}
use Rattle.rules.specs.Sizes.{sizes}
use Rattle.send.specs.Internal.Chosen.{SentRows, Chosen}
use Rattle.session.specs.Plan.{Body, heard}
use Rattle.table.specs.Table.{Row, rows, hash_of}
use Rattle.plan_parts.specs.declared.body.BodyCount.{BodyCount}
use Rattle.plan_parts.specs.declared.need.Asked.{Asked}

-- What is asked for was counted: all of it where it is no more than a list may have, and then whether each hash is a head that was heard.
pub record NeedCounted (l : List ℕ) (theirs : Option (List ℕ)) (a : Asked) : Type 0 where
  pub within : a.count ≤ sizes.hashes + 1
  pub all : a.count ≤ sizes.hashes → a.count ≡ length l
  pub many : sizes.hashes < a.count → sizes.hashes < length l
  pub each : a.count ≤ sizes.hashes → a.heard ≡ every (λ h. member h (heard theirs)) l

-- And it was found by its numbers.
pub record NeedFound (their_heads waiting refs l : List ℕ) (theirs : Option (List ℕ)) (a : Asked) : Type 0 where
  pub counted : NeedCounted l theirs a
  pub found : FoundRefs their_heads 0 a.heads waiting refs a.count
  pub are : a.count ≤ sizes.hashes → found_by their_heads 0 a.heads waiting refs a.count ≡ l

-- The rows beyond some hashes are marked and counted where a have is given; else none is counted.
pub record HaveCounted (t : List Row) (n : ℕ) (given : Bool) (last_sync : List ℕ) (marks : List Bool) (entries : ℕ) : Type 0 where
  pub long : n ≤ length marks
  pub those : given ≡ true → picked (rows t) marks ≡ beyond t last_sync
  pub many : given ≡ true → entries ≡ marked n marks
  pub none : given ≡ false → entries ≡ 0

-- A body that isn't chosen yet: no mark of the n rows and of the `count` needs is set.
pub record BlankBody (n count : ℕ) (marks needs : List Bool) : Type 0 where
  pub row_marks : n ≤ length marks
  pub no_row : Blank n marks
  pub need_marks : count ≤ length needs
  pub no_need : Blank count needs

-- The document: every row is marked and no need.
pub record DocumentMarked (n count : ℕ) (marks needs : List Bool) (r : BodyCount) : Type 0 where
  pub all : Marks n marks (λ i. true)
  pub none : Blank count needs
  pub is : r ≡ record { document = true; hashes = n }

-- A body: its hashes are those of the needs and rows that are marked, and whether they go as the document.
pub record BodyChosen (b : Body) (t : List Row) (marks : List Bool) (need : List ℕ) (needs : List Bool) (r : BodyCount) : Type 0 where
  pub document : r.document ≡ b.document
  pub hashes : Chosen b.hashes t marks need needs r.hashes

-- The rows of hashes that were sent are marked, and a body beside them is the document, which every row is in, or a list that has none of them.
pub record SentBeside (t : List Row) (n : ℕ) (document : Bool) (body sent : List ℕ) (past : List Bool) : Type 0 where
  pub those : SentRows t n sent past
  pub whole : document ≡ true → body ≡ rows t
  pub list : document ≡ false → (h : ℕ) → member h body ≡ true → member h sent ≡ false

-- The rows of a body that weren't sent are marked, and it is counted how many hashes are sent with them.
pub record FreshMarked (t : List Row) (n : ℕ) (body sent : List ℕ) (fresh : List Bool) (count : ℕ) : Type 0 where
  pub long : n ≤ length fresh
  pub those : Marks n fresh (λ i. member (hash_of t i) body && not (member (hash_of t i) sent))
  pub all : count ≡ length sent + marked n fresh
  pub many : count ≡ length (ascend (body ++ sent))
  pub are : ascend (picked (rows t) fresh ++ sent) ≡ ascend (body ++ sent)
