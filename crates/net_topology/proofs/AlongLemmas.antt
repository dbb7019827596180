-- Tables with the next links of one way lead over it, and where tables lead they lead along the way.
use Rattle.std.proofs.Common.{◌≡◌, ◌≢◌, ◌==◌, ℕ, ◌*◌, ◌<◌, Bool, true, false, List, [], ◌∷◌, length, Option, Some, None, slice_get, sym, ◌∙◌, refl, ap, subst, arith, if◌then◌else◌, eq-eqb}
use Rattle.std.specs.Option.{option_and_then, option_map_or}
use Rattle.std.proofs.lemmas.Bool.{false≢true}
use Rattle.std.proofs.lemmas.Option.{same_Some}
use Rattle.chdr_words.specs.declared.epid.Epid.{Epid}
use Rattle.net_topology.specs.declared.plan.Plan.{Plan}
use Rattle.net_topology.specs.Leads.{Exits, IsAlong, IsRouted, has_table, turned_to, sent_on, LeadsOver, Leads}
use Rattle.net_topology.specs.Links.{start_of, end_of, start_port, end_port, Walks, IsWay, NeverTurns, IsWayOver, link_at}
use Rattle.net_topology.specs.Parts.{way_of}
use Rattle.net_topology.specs.Ranks.{MayFollow}
use Rattle.net_topology.specs.Tree.{IsTree, node_with, port_count}
use Rattle.net_topology.proofs.CheckLemmas.{way_of_is_way}
use Rattle.net_topology.proofs.LawLemmas.{forest, only_way}
use Rattle.net_topology.proofs.PortLemmas.{goes_on, way_goes_on, link_at-start, link_at-some}
use Rattle.net_topology.proofs.RankLemmas.{IsWayOver-one, way_before}
use Rattle.net_topology.proofs.RouteLemmas.{start_port_there, table_between, sent_on-routed, one_port}
use Rattle.net_topology.proofs.WayLemmas.{Forest}

-- a walk that never turns back is a way
pub walk_is_way : (links : List _) (k a b : ℕ) (ds : List ℕ) → Forest links k → Walks links k a b ds → NeverTurns ds → IsWayOver links k a b ds
walk_is_way links k a b [] f w t = (w, (tt, tt))
walk_is_way links k a b (d ∷ []) f w t =
    subst (λ x. IsWayOver links k x b (d ∷ [])) w.1 (subst (λ y. IsWayOver links k (start_of links d) y (d ∷ [])) w.2 (IsWayOver-one links k d f w.0))
walk_is_way links k a b (d ∷ e ∷ ds) f w t =
    let rest = walk_is_way links k (end_of links d) b (e ∷ ds) f w.2 t.1 in
    subst (λ x. IsWayOver links k x b (d ∷ e ∷ ds)) w.1 (way_before links k d e b ds f w.0 w.2.1 t.0 rest)

-- a port by which a packet goes on isn't that of its arrival, and has the link
pub turned-some : (plan : Plan) (d port e : ℕ) → turned_to plan d port ≡ Some e → (port ≢ end_port plan.links d) × (link_at plan.links (end_of plan.links d) port ≡ Some e)
turned-some plan d port e =
    elim (port == end_port plan.links d) as (λ b. (port == end_port plan.links d) ≡ b → (if b then None else link_at plan.links (end_of plan.links d) port) ≡ Some e → (port ≢ end_port plan.links d) × (link_at plan.links (end_of plan.links d) port ≡ Some e)) [
      | true ↦ λ t h. let z : ◌≡◌ {A = Option ℕ} None (Some e) = h in cc
      | false ↦ λ f h. ((λ same. false≢true (sym f ∙ eq-eqb port (end_port plan.links d) same)), h)
    ] refl

pub chosen-some : (plan : Plan) (d e : ℕ) (exit : Option ℕ) → option_and_then (turned_to plan d) exit ≡ Some e → (port : ℕ) × (port ≢ end_port plan.links d) × (link_at plan.links (end_of plan.links d) port ≡ Some e)
chosen-some plan d e None h = let z : ◌≡◌ {A = Option ℕ} None (Some e) = h in cc
chosen-some plan d e (Some port) h = let t = turned-some plan d port e h in (port, t.0, t.1)

pub table-some : (plan : Plan) (d e : ℕ) (b : Bool) (exit : Option ℕ) → (if b then option_and_then (turned_to plan d) exit else None) ≡ Some e → (port : ℕ) × (port ≢ end_port plan.links d) × (link_at plan.links (end_of plan.links d) port ≡ Some e)
table-some plan d e true exit h = chosen-some plan d e exit h
table-some plan d e false exit h = let z : ◌≡◌ {A = Option ℕ} None (Some e) = h in cc

-- a packet that is sent on goes on
pub sent_on-follows : (plan : Plan) (exits : Exits) (dst : Epid) (d e : ℕ) → sent_on plan exits dst d ≡ Some e → MayFollow plan.links d e
sent_on-follows plan exits dst d e h =
    let f = table-some plan d e (option_map_or has_table (slice_get plan.nodes (end_of plan.links d)) false) (exits (end_of plan.links d) dst) h in
    goes_on plan.links d e f.0 f.1 f.2

module _ (plan : Plan) (tree : IsTree plan) where
  pub leads_is_way : (exits : Exits) (dst : Epid) (z d : ℕ) (ds : List ℕ) → d < 2 * length plan.links → LeadsOver plan exits dst d ds z → IsWay plan.links (start_of plan.links d) z (d ∷ ds)
  leads_is_way exits dst z d [] h l =
      subst (λ y. IsWay plan.links (start_of plan.links d) y (d ∷ [])) l (IsWayOver-one plan.links (length plan.links) d (forest plan tree) h)
  leads_is_way exits dst z d (e ∷ ds) h l =
      let m = sent_on-follows plan exits dst d e l.0 in
      let rest = leads_is_way exits dst z e ds m.there l.1 in
      way_before plan.links (length plan.links) d e z ds (forest plan tree) h m.starts m.onward (subst (λ y. IsWay plan.links y z (e ∷ ds)) m.starts rest)

  -- from one end node to another
  pub leads_way : (exits : Exits) (a b : Epid) (l : Leads plan exits a b) → IsWay plan.links l.source l.target (l.first ∷ l.links)
  leads_way exits a b l =
      let found = link_at-some plan.links l.source 0 l.first l.out in
      subst (λ x. IsWay plan.links x l.target (l.first ∷ l.links)) found.1.from (leads_is_way exits b l.target l.first l.links found.0 l.way)

  pub none_itself : (exits : Exits) (a b : Epid) → Leads plan exits a b → a ≢ b
  none_itself exits a b l same =
      let w = leads_way exits a b l in
      let one : l.source ≡ l.target = same_Some _ _ (sym l.from ∙ ap (node_with plan.nodes) same ∙ l.to) in
      let no : [] ≡ l.first ∷ l.links = only_way plan tree l.source l.source [] (refl, (tt, tt)) ∙ sym (only_way plan tree l.source l.source (l.first ∷ l.links) (subst (λ x. IsWay plan.links l.source x (l.first ∷ l.links)) (sym one) w)) in
      cc

  pub along_over : (exits : Exits) (dst : Epid) (z x d : ℕ) (ds : List ℕ) → IsAlong plan exits dst (d ∷ ds) → IsWay plan.links x z (d ∷ ds) → LeadsOver plan exits dst d ds z
  along_over exits dst z x d [] a w = w.0.2
  along_over exits dst z x d (e ∷ ds) a w =
      let m = way_goes_on plan.links x z d e ds w in
      let rest : IsWay plan.links (end_of plan.links d) z (e ∷ ds) = (w.0.2, w.1.1) in
      (sent_on-routed plan tree exits d e dst w.0.0 m a.0, along_over exits dst z (end_of plan.links d) e ds a.1 rest)

  pub along_leads : (exits : Exits) (a b : Epid) (x z : ℕ) (ds : List ℕ) → IsAlong plan exits b ds → node_with plan.nodes a ≡ Some x → node_with plan.nodes b ≡ Some z → x ≢ z → IsWay plan.links x z ds → Leads plan exits a b
  along_leads exits a b x z [] r n m ne w = absurd (ne w.0)
  along_leads exits a b x z (d ∷ ds) r n m ne w =
      let out : start_port plan.links d < port_count plan.nodes x = subst (λ y. start_port plan.links d < port_count plan.nodes y) w.0.1 (start_port_there plan tree d w.0.0) in
      let zero_port : start_port plan.links d ≡ 0 = omega (arith, out, (one_port plan tree x a n).1) in
      record {
        source = x;
        target = z;
        first = d;
        links = ds;
        from = n;
        to = m;
        out = ap (λ y. link_at plan.links y 0) (sym w.0.1) ∙ ap (link_at plan.links (start_of plan.links d)) (sym zero_port) ∙ link_at-start plan tree d w.0.0;
        way = along_over exits b z x d ds r w;
      }

  -- tables with the next links of the way lead over it
  pub along_all : (exits : Exits) (a b : Epid) (x z : ℕ) → IsAlong plan exits b (way_of plan.links x z) → node_with plan.nodes a ≡ Some x → node_with plan.nodes b ≡ Some z → x ≢ z → Leads plan exits a b
  along_all exits a b x z r n m ne =
      along_leads exits a b x z (way_of plan.links x z) r n m ne (way_of_is_way plan x z tree (one_port plan tree x a n).0 (one_port plan tree z b m).0)

  -- tables with the next link of each way have those of one
  pub routed_along : (exits : Exits) (z : ℕ) (epid : Epid) → IsRouted plan exits → node_with plan.nodes epid ≡ Some z → (x : ℕ) (ds : List ℕ) → IsWay plan.links x z ds → IsAlong plan exits epid ds
  routed_along exits z epid r n x [] w = tt
  routed_along exits z epid r n x (d ∷ []) w = tt
  routed_along exits z epid r n x (d ∷ e ∷ ds) w =
      let m = way_goes_on plan.links x z d e ds w in
      let rest : IsWay plan.links (end_of plan.links d) z (e ∷ ds) = (w.0.2, w.1.1) in
      let entry = r (end_of plan.links d) z e ds epid (table_between plan tree d e w.0.0 m) n (sym (only_way plan tree (end_of plan.links d) z (e ∷ ds) rest)) in
      (entry, routed_along exits z epid r n (end_of plan.links d) (e ∷ ds) rest)

  pub routed_all : (exits : Exits) (a b : Epid) (x z : ℕ) → IsRouted plan exits → node_with plan.nodes a ≡ Some x → node_with plan.nodes b ≡ Some z → x ≢ z → Leads plan exits a b
  routed_all exits a b x z r n m ne =
      let way = way_of_is_way plan x z tree (one_port plan tree x a n).0 (one_port plan tree z b m).0 in
      along_all exits a b x z (routed_along exits z b r m x (way_of plan.links x z) way) n m ne
