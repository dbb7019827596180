-- A route that is written at each node of its way leads both ways.
use Rattle.std.proofs.Common.{◌≡◌, ◌≢◌, ℕ, List, [], ◌∷◌, ◌++◌, length, map, reverse, sym, ◌∙◌, ap, subst, append_assoc}
use Rattle.std.specs.Prelude.{Option, Some, unwrap_or}
use Rattle.std.proofs.lemmas.List.{reverse-append}
use Rattle.chdr_words.specs.declared.epid.Epid.{Epid}
use Rattle.net_topology.specs.Leads.{Exits, IsAlong}
use Rattle.net_topology.specs.Links.{Walks, back_of, end_of, start_port}
use Rattle.net_topology.specs.Parts.{way_of}
use Rattle.net_topology.specs.Tree.{IsTree, epid_at, node_with}
use Rattle.net_topology.specs.declared.plan.Plan.{Plan}
use Rattle.net_topology.proofs.Laws.{epids_name_nodes, ways_are_there, ways_lead_back, written_ways_lead}
use Rattle.net_walks.proofs.Laws.{backs_end}
use Rattle.net_writes.specs.Routes.{IsRouteWritten, WholeRoutesLead}
use Rattle.net_writes.proofs.Routes.{node-there}

module _ (tree : Plan) (exits : Exits) (a b : Epid) where
  along-forth : (ds : List ℕ) → IsRouteWritten tree exits a b ds → IsAlong tree exits b ds
  along-forth [] written = tt
  along-forth (d ∷ []) written = tt
  along-forth (d ∷ e ∷ ds) written = (written.0, along-forth (e ∷ ds) written.2)

  -- one link more behind the last
  along-more : (ds : List ℕ) (d e : ℕ) → IsAlong tree exits a (ds ++ d ∷ []) → exits (end_of tree.links d) a ≡ Some (start_port tree.links e) →
      IsAlong tree exits a (ds ++ d ∷ e ∷ [])
  along-more [] d e along entry = (entry, tt)
  along-more (c ∷ []) d e along entry = (along.0, (entry, tt))
  along-more (c ∷ f ∷ ds) d e along entry = (along.0, along-more (f ∷ ds) d e along.1 entry)

  reversed : List ℕ → List ℕ
  reversed ds = reverse (map back_of ds)

  reversed-more : (d : ℕ) (ds : List ℕ) → reversed (d ∷ ds) ≡ reversed ds ++ back_of d ∷ []
  unfolding reversed
  reversed-more d ds = reverse-append (back_of d ∷ []) (map back_of ds)

  along-back : (d : ℕ) (ds : List ℕ) (x z : ℕ) → Walks tree.links (length tree.links) x z (d ∷ ds) → IsRouteWritten tree exits a b (d ∷ ds) →
      IsAlong tree exits a (reversed (d ∷ ds))
  unfolding reversed
  along-back d [] x z walk written = tt
  along-back d (e ∷ ds) x z walk written =
      let rest : IsAlong tree exits a (reversed (e ∷ ds)) = along-back e ds (end_of tree.links d) z walk.2 written.2 in
      let starts : end_of tree.links (back_of e) ≡ end_of tree.links d = (backs_end tree.links e).0 ∙ walk.2.1 in
      let more = along-more (reversed ds) (back_of e) (back_of d) (subst (λ (es : List ℕ). IsAlong tree exits a es) (reversed-more e ds) rest)
      (ap (λ (n : ℕ). exits n a) starts ∙ written.1) in
      subst (λ (es : List ℕ). IsAlong tree exits a es)
      (sym (reversed-more d (e ∷ ds) ∙ ap (λ (es : List ℕ). es ++ back_of d ∷ []) (reversed-more e ds) ∙ append_assoc (reversed ds) (back_of e ∷ []) (back_of d ∷ []))) more

  back-along : (ds : List ℕ) (x z : ℕ) → Walks tree.links (length tree.links) x z ds → IsRouteWritten tree exits a b ds → IsAlong tree exits a (reverse (map back_of ds))
  unfolding reversed
  back-along [] x z walk written = tt
  back-along (d ∷ ds) x z walk written = along-back d ds x z walk written

-- one node has one EPID
some-same : (a b : Epid) → ◌≡◌ {A = Option Epid} (Some a) (Some b) → a ≡ b
some-same a b is = ap (λ (o : Option Epid). unwrap_or o a) is

one-epid : (tree : Plan) → IsTree tree → (y z : ℕ) (a b : Epid) → node_with tree.nodes a ≡ Some y → node_with tree.nodes b ≡ Some z → y ≡ z → a ≡ b
one-epid tree is y z a b from to same =
    some-same a b (sym ((epids_name_nodes tree is y a).0 from) ∙ ap (λ (n : ℕ). epid_at tree.nodes n) same ∙ (epids_name_nodes tree is z b).0 to)

pub whole-routes : WholeRoutesLead
whole-routes tree exits y z a b is from to other written =
    let here = node-there tree is y a from in
    let there = node-there tree is z b to in
    let way = ways_are_there tree is y z here there in
    let unlike : y ≢ z = λ same. other (one-epid tree is y z a b from to same) in
    record {
      forth = written_ways_lead tree is exits a b y z (along-forth tree exits a b (way_of tree.links y z) written) from to unlike;
      back = written_ways_lead tree is exits b a z y
          (subst (λ (es : List ℕ). IsAlong tree exits a es) (sym (ways_lead_back tree is y z here there)) (back-along tree exits a b (way_of tree.links y z) y z way.0 written))
          to from (λ same. unlike (sym same));
    }
