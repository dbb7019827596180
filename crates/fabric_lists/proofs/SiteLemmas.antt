-- Nodes at their places, seen through what contracts read of each.
use Rattle.std.proofs.Common.{◌≡◌, ℕ, zero, suc, ◌<◌, List, [], ◌∷◌, length, refl, sym, ◌∙◌, ap, get_or, set, Option, None, Some, arith}
use Rattle.std.specs.Prelude.{drop, map, MatchOption, OnErr, OnOk, Result, Ok, Err}
use Rattle.std.proofs.Math.Seq.{map-set_same}
use Rattle.std.proofs.lemmas.List.{map-set, get_or-map}
use Rattle.chdr_packets.specs.declared.packet.Packet.{Packet}
use Rattle.net_machine.specs.State.{Node, blank, node_in}
use Rattle.fabric_nodes.specs.Sites.{node_of}
use Rattle.fabric_nodes.specs.declared.node.Site.{Site}
use Rattle.fabric_lists.specs.SitesView.{no_shape, no_spare, on_site, shape_in, shape_seen, sites_of, spare_in, spare_seen}

-- a node that was read is the one that contracts see at its place
pub record Found (parts : List Site) (x : ℕ) (part : Site) : Type 0 where
  pub node : node_of part ≡ node_in (sites_of parts).nodes x
  pub shape : part.node.shape ≡ shape_seen (sites_of parts).shapes x
  pub spare : spare_in part ≡ spare_seen (sites_of parts).spares x

read : {A : Type 0} (seen : Site → A) (parts : List Site) (x : ℕ) (part : Site) (none : A) → x < length parts
    → part ≡ get_or parts x part → seen part ≡ get_or (map seen parts) x none
read seen parts x part none there is = ap seen is ∙ sym (get_or-map seen parts x part none there)

pub found : (parts : List Site) (x : ℕ) (part : Site) → x < length parts → part ≡ get_or parts x part → Found parts x part
found parts x part there is = record {
  node = read node_of parts x part blank there is;
  shape = read shape_in parts x part no_shape there is;
  spare = read spare_in parts x part no_spare there is;
}

-- a node that was written is seen at its place
pub node-set : (parts : List Site) (x : ℕ) (old new : Site) (next : Node → Node) → x < length parts
    → old ≡ get_or parts x old → node_of new ≡ next (node_of old) → map node_of (set parts x new) ≡ on_site x next (map node_of parts)
node-set parts x old new next there is then =
    map-set node_of parts x new ∙ ap (set (map node_of parts) x) (then ∙ ap next (read node_of parts x old blank there is))

-- what a node keeps is seen as before
pub seen-same : {A : Type 0} (seen : Site → A) (parts : List Site) (x : ℕ) (old new : Site) → old ≡ get_or parts x old
    → seen new ≡ seen old → map seen (set parts x new) ≡ map seen parts
seen-same seen parts x old new is then = map-set_same seen parts x new old (then ∙ ap seen is)

-- what was taken off a list with these packets
pub taken : (result : Option Packet) (old new : List Packet) (p : Packet) (rest : List Packet)
    → MatchOption result (old ≡ []) (λ first. old ≡ first ∷ new) → old ≡ p ∷ rest → (result ≡ Some p) × (new ≡ rest)
taken None old new p rest h is = absurd (cc (sym h ∙ is))
taken (Some first) old new p rest h is =
    let same : first ∷ new ≡ p ∷ rest = sym h ∙ is in
    let front : first ≡ p = cc in
    let left : new ≡ rest = cc in
    (ap (λ (q : Packet). Some q) front, left)

-- what is left of a list of which the first was taken
pub left-of : (result : Option Packet) (old new : List Packet) → MatchOption result (old ≡ []) (λ first. old ≡ first ∷ new)
    → MatchOption result (new ≡ []) (λ first. Unit {0}) → new ≡ drop 1 old
left-of None old new h none = none ∙ sym (ap (λ (ps : List Packet). drop 1 ps) h)
left-of (Some first) old new h none = sym (ap (λ (ps : List Packet). drop 1 ps) h)

-- the room at a node that was written
pub spare-there : (parts : List Site) (x : ℕ) (new : Site) → x < length parts → spare_seen (sites_of (set parts x new)).spares x ≡ spare_in new
spare-there [] x new there = absurd (omega arith)
spare-there (p ∷ ps) zero new there = refl
spare-there (p ∷ ps) (suc x) new there = spare-there ps x new (omega arith)

-- what follows where a call answers Ok, and where it answers Err
pub on-ok : {A E P Q : Type 0} (r : Result A E) → (P → Q) → OnOk r P → OnOk r Q
on-ok (Ok a) f h = f h
on-ok (Err e) f h = h

pub on-err : {A E P Q : Type 0} (r : Result A E) → (P → Q) → OnErr r P → OnErr r Q
on-err (Ok a) f h = h
on-err (Err e) f h = f h
