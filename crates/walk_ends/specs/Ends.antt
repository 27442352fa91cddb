-- Both ends have news. 02, M-111: two ends alternate, one message each way per exchange. What an end states and lists in a message, and what it does when one
-- comes, are the walk's steps (walk Round: trim, Gives, Picks, Loads; send ToSend: to_send_less); only what an end keeps is new, since both ask and both answer.
-- J is the joint set, a table of which both are parts (Joint.antt), so that equal hashes have equal dependencies and row numbers may differ.
use Rattle.std.specs.Prelude.{ℕ, zero, suc, ◌≤◌, max, Bool, true, false, not, ◌&&◌, List, [], ◌++◌, ◌≡◌, length}
use Rattle.std.proofs.Math.Option.{Option, none, some}
use Rattle.bloom.specs.Have.{Have}
use Rattle.hash_order.specs.Order.{member, often}
use Rattle.send.specs.ToSend.{to_send_less}
use Rattle.send_members.specs.Internal.Members.{last_syncs}
use Rattle.table.specs.Table.{Row, held}
use Rattle.table_graph.specs.Graph.{heads}
use Rattle.waiting.specs.Waiting.{Waiting}
use Rattle.waiting_missing.specs.Missing.{missing}
use Rattle.walk.specs.Round.{Part, Gives, trim, Picks, Loads}
use Rattle.walk.specs.Walk.{holds_all, lacking}

-- What a message states beside its list.
pub record StatedWords : Type 0 where
  pub heads : List ℕ
  pub need : List ℕ
  pub haves : List Have

-- Where an end stands: its table, what waits beside it (W), what it sent and doesn't know to have come (T, one for its own direction), what it heard last, and
-- all that it has named.
pub record End : Type 0 where
  pub table : List Row
  pub waits : List Waiting
  pub sent : List ℕ
  pub heard : Option StatedWords
  pub named : List ℕ

-- "nothing waiting or sent": nor was anything heard or named.
abbrev pub end_starting : List Row → End
end_starting t = record { table = t; waits = []; sent = []; heard = none; named = [] }

-- The heads last heard; none where nothing was heard.
abbrev pub heads_heard : Option StatedWords → List ℕ
heads_heard none = []
heads_heard (some m) = m.heads

-- Its list for the other: the hashes to send for what that end stated last, less those sent. "An end that has heard nothing yet needs and lists nothing."
unfoldable pub list_for : List Row → List ℕ → Option StatedWords → List ℕ
list_for t sent none = []
list_for t sent (some m) = to_send_less t m.haves m.need sent

-- An end when it has named these.
abbrev pub end_spoken : End → List ℕ → End
end_spoken e list = record { table = e.table; waits = e.waits; sent = e.sent ++ list; heard = e.heard; named = e.named ++ list }

-- An end speaks: its heads; as need what is missing from the heads last heard, in the first exchange too; a have as in the walk, with those heads as A's, and
-- with any filter that covers (02, M-107); and its list, or a pick of it (02, M-110). What is named joins what was sent.
pub record EndSpeaks (e : End) (says : StatedWords) (list : List ℕ) (e' : End) : Type 0 where
  pub heads_are : says.heads ≡ heads e.table
  pub need_is : says.need ≡ missing e.table e.waits (heads_heard e.heard)
  pub gives : Gives e.table e.waits (heads_heard e.heard) says.haves
  pub picks : Picks (list_for e.table e.sent e.heard) list
  pub after : e' ≡ end_spoken e list

-- An end hears a message: "what came has joined the table or W" before its own message is made; what it sent loses the heads heard and all below them.
pub record EndHears (J : List Row) (e : End) (says : StatedWords) (list : List ℕ) (e' : End) : Type 0 where
  pub loads : Loads J e.table e.waits list e'.table e'.waits
  pub after : e'
      ≡ record { table = e'.table; waits = e'.waits; sent = trim e'.table says.heads e.sent; heard = some says; named = e.named }

-- One message, from e to f. "Each last-sync hash is held by both ends when it is named": that its speaker holds it is part of Gives.
pub record Turn (J : List Row) (e f : End) (says : StatedWords) (list : List ℕ) (e' f' : End) : Type 0 where
  pub speaks : EndSpeaks e says list e'
  pub both : (h : ℕ) → member h (last_syncs says.haves) ≡ true → held f.table h ≡ true
  pub hears : EndHears J f says list f'

-- An exchange, one message each way, x first.
pub record Exchange (J : List Row) (x y x' y' : End) : Type 0 where
  pub says_x : StatedWords
  pub list_x : List ℕ
  pub spoken_x : End
  pub heard_y : End
  pub first : Turn J x y says_x list_x spoken_x heard_y
  pub says_y : StatedWords
  pub list_y : List ℕ
  pub second : Turn J heard_y spoken_x says_y list_y y' x'

-- So many exchanges from the tables X and Y on, X speaking first.
pub data Exchanges (J X Y : List Row) : ℕ → End → End → Type 0 where
  start : Exchanges J X Y 0 (end_starting X) (end_starting Y)
  more : {n : ℕ} {x y x' y' : End} → Exchanges J X Y n x y → Exchange J x y x' y' → Exchanges J X Y (suc n) x' y'

-- The same by messages: so many from X's first one on; of the two ends the one that speaks next stands first.
pub data Turns (J X Y : List Row) : ℕ → End → End → Type 0 where
  start : Turns J X Y 0 (end_starting X) (end_starting Y)
  turn : {n : ℕ} {e f e' f' : End} (says : StatedWords) (list : List ℕ) → Turns J X Y n e f → Turn J e f says list e' f' → Turns J X Y (suc n) f' e'

-- Whether X speaks the message that comes after so many.
unfoldable pub first_speaks : ℕ → Bool
first_speaks zero = true
first_speaks (suc n) = not (first_speaks n)

-- What is wanted, a promise a line; j is `lacking J X` and k is `lacking J Y`.
pub record BothEnds (J X Y : List Row) : Type 0 where
  -- both hold the joint set after max(j, k) + 1 exchanges, and stay so
  pub ends : (n : ℕ) (x y : End) → Exchanges J X Y n x y → suc (max (lacking J X) (lacking J Y)) ≤ n
      → (holds_all J x.table ≡ true) × (holds_all J y.table ≡ true)
  -- no row crosses twice in the same direction
  pub once : (n : ℕ) (x y : End) → Exchanges J X Y n x y → (h : ℕ) → (often h x.named ≤ 1) × (often h y.named ≤ 1)
  -- once an end holds the joint set, whenever that is, the other has named as many rows as it lacked: those that it lacked
  pub count_x : (n : ℕ) (x y : End) → Exchanges J X Y n x y → holds_all J x.table ≡ true → length y.named ≡ lacking J X
  pub count_y : (n : ℕ) (x y : End) → Exchanges J X Y n x y → holds_all J y.table ≡ true → length x.named ≡ lacking J Y
  pub which_x : (n : ℕ) (x y : End) → Exchanges J X Y n x y → holds_all J x.table ≡ true
      → (h : ℕ)
      → member h y.named ≡ (held J h && not (held X h))
  pub which_y : (n : ℕ) (x y : End) → Exchanges J X Y n x y → holds_all J y.table ≡ true
      → (h : ℕ)
      → member h x.named ≡ (held J h && not (held Y h))
  -- none goes to an end that has it in its table: not x's list to y, and not y's to x
  pub new_y : (n : ℕ) (x y x' y' : End) → Exchanges J X Y n x y → (e : Exchange J x y x' y')
      → (h : ℕ)
      → member h e.list_x ≡ true
      → held y.table h ≡ false
  pub new_x : (n : ℕ) (x y x' y' : End) → Exchanges J X Y n x y → (e : Exchange J x y x' y')
      → (h : ℕ)
      → member h e.list_y ≡ true
      → held x.table h ≡ false
  -- both stay parts of the joint set, and what they held stays held
  pub parts : (n : ℕ) (x y : End) → Exchanges J X Y n x y → Part J x.table × Part J y.table
  pub kept : (n : ℕ) (x y : End) → Exchanges J X Y n x y
      → (h : ℕ)
      → (held X h ≡ true → held x.table h ≡ true) × (held Y h ≡ true → held y.table h ≡ true)
  -- an exchange can always follow: the other promises aren't about nothing
  pub goes : (n : ℕ) (x y : End) → Exchanges J X Y n x y → (x' : End) × (y' : End) × Exchange J x y x' y'
