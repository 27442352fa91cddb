-- What internal contracts speak of: the shared heads after a message. No rule of 01 stands here.
use Rattle.std.specs.Prelude.{ℕ, Bool, cond, not, ◌||◌, ◌&&◌, List, leb, take}
use Rattle.hash_order.specs.Order.{member}
use Rattle.session.specs.Receive.{advance, join}
use Rattle.table.specs.Table.{Row, hash_of}
use Rattle.table_graph.specs.Graph.{needed, heads}

-- The shared heads after a message by whether all of its heads are held and whether changes were loaded.
unfoldable pub shared_then : Bool → Bool → ℕ → List Row → List ℕ → List ℕ → List ℕ
shared_then all loads before t theirs shared =
    cond all theirs (join t theirs (cond loads (advance (heads (take before t)) (heads t) shared) shared))

-- A row that is shared after changes were loaded: a head that is new, since its row is, or that was shared; or a head of the message.
unfoldable pub shared_row : ℕ → List Row → List ℕ → List ℕ → ℕ → Bool
shared_row before t shared theirs i = (not (needed t i) && (leb before i || member (hash_of t i) shared)) || member (hash_of t i) theirs
