-- The operations of a hop, one after another.
use Rattle.std.proofs.Common.{◌≡◌, ℕ, ◌+◌, ◌<◌, List, length, get_or, take, drop, fold}
use Rattle.std.proofs.lemmas.List.{at_drop_more}
use Rattle.std.proofs.lemmas.List.Sums.{fold_more, sum_by-drop_more}
use Rattle.chdr_words.specs.declared.epid.Epid.{Epid}
use Rattle.chdr_words.specs.declared.management.MgmtOp.{MgmtOp}
use Rattle.chdr_words.specs.Operation.{operation_of}
use Rattle.net_nodes.specs.Budget.{asked_by}
use Rattle.net_nodes.specs.Operations.{asked, asked_in}
use Rattle.net_nodes.specs.Perform.{Work, operated}
use Rattle.net_nodes.specs.declared.site.Site.{Site}

pub operated_more : (site : Site) (src : Epid) (start : Work) (ops : List MgmtOp) (i : ℕ) (d : MgmtOp) → i < length ops → fold (operated site src) start (take (i + 1) ops) ≡ operated site src (fold (operated site src) start (take i ops)) (get_or ops i d)
operated_more site src start ops i d h = fold_more (operated site src) start ops i d h

pub asked_in_more : (ops : List MgmtOp) (i : ℕ) (d : MgmtOp) → i < length ops → asked_in (drop i ops) ≡ asked (operation_of (get_or ops i d)) + asked_in (drop (i + 1) ops)
asked_in_more ops i d h = at_drop_more asked_in ops i d h

pub asked_by_more : (hops : List (List MgmtOp)) (i : ℕ) (d : List MgmtOp) → i < length hops → asked_by (drop i hops) ≡ asked_in (get_or hops i d) + asked_by (drop (i + 1) hops)
asked_by_more hops i d h = sum_by-drop_more asked_in hops i d h

pub ruleset hop_lemmas = (operated_more, asked_in_more)
