-- A table with an entry for each EPID that a way leads to.
use Rattle.std.specs.Prelude.{ℕ, ◌++◌, List, [], map, take, drop, Option}
use Rattle.chdr_words.specs.declared.epid.Epid.{Epid}
use Rattle.net_nodes.specs.Table.{no_exit}
use Rattle.net_nodes.specs.declared.table.Place.{Place}
use Rattle.fabric_nodes.specs.Shapes.{Shape, Switches, Ends}

-- the place of an EPID, with its port if there is one
abbrev pub placed : (Epid → Option ℕ) → Epid → Place
placed exit epid = record { epid = epid; exit = exit epid }

-- a table with a place for each of these EPIDs and its port, where the node has one
abbrev pub routed_table : Shape → (Epid → Option ℕ) → List Epid → List Place
routed_table (Switches kind instance ports linked) exit epids = map (placed exit) epids
routed_table (Ends node) exit epids = []

-- so far the first n EPIDs have their ports
abbrev pub routed_first : Shape → (Epid → Option ℕ) → List Epid → ℕ → List Place
routed_first (Switches kind instance ports linked) exit epids n = map (placed exit) (take n epids) ++ map no_exit (drop n epids)
routed_first (Ends node) exit epids n = []
