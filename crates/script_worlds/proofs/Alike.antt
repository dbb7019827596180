-- What is set up after a command follows from its book, up to the order of the committed values.
use Rattle.std.proofs.Common.{◌≡◌, ◌∙◌, ℕ, refl, sym, ap, List, [], ◌∷◌, length, map}
use Rattle.std.specs.List.{range_with_len}
use Rattle.graph_core.proofs.Laws.{settling_is_unique}
use Rattle.graph_core.specs.Pairs.{Pair, value_of}
use Rattle.graph_core.specs.declared.place.PropAt.{PropAt}
use Rattle.net_machine.specs.declared.plan.BlockPlan.{BlockPlan}
use Rattle.rf_script_types.specs.declared.command.ScriptCommand.TheVariants as command
use Rattle.run_plans.specs.Planned.{plan_of, planned_at}
use Rattle.run_plans.specs.declared.layout.Layout.{Layout}
use Rattle.script_books.specs.declared.book.Book.{Book}
use Rattle.script_books.specs.declared.book.Book.TheVariants as book
use Rattle.script_worlds.specs.Laws.{AlikePlanTheSame, AreAlike, NextIsOne}
use Rattle.script_worlds.specs.Worlds.{IsAfterCommit, IsSettled, Setup}

same : (one other : Setup) → one ≡ other → AreAlike one other
same one other is = record {
  tree = ap (λ (s : Setup). s.tree) is;
  diagram = ap (λ (s : Setup). s.graph.diagram) is;
  values = λ at. ap (λ (s : Setup). value_of s.graph.committed at) is;
  mark = ap (λ (s : Setup). s.graph.is_committed) is;
  layout = ap (λ (s : Setup). s.layout) is;
  found = ap (λ (s : Setup). s.found) is;
}

settled : (old one other : Setup) → IsSettled old one → IsSettled old other → AreAlike one other
settled old one other p q = record {
  tree = ap (λ (s : Setup). s.tree) p.changed ∙ sym (ap (λ (s : Setup). s.tree) q.changed);
  diagram = ap (λ (s : Setup). s.graph.diagram) p.changed ∙ sym (ap (λ (s : Setup). s.graph.diagram) q.changed);
  values = λ at. ap (λ (s : Setup). value_of s.graph.committed at) p.changed
      ∙ (settling_is_unique old.graph.diagram p.values q.values p.settles q.settles).1 at
      ∙ sym (ap (λ (s : Setup). value_of s.graph.committed at) q.changed);
  mark = ap (λ (s : Setup). s.graph.is_committed) p.changed ∙ sym (ap (λ (s : Setup). s.graph.is_committed) q.changed);
  layout = ap (λ (s : Setup). s.layout) p.changed ∙ sym (ap (λ (s : Setup). s.layout) q.changed);
  found = ap (λ (s : Setup). s.found) p.changed ∙ sym (ap (λ (s : Setup). s.found) q.changed);
}

after_commit : (old one other : Setup) (told : Book) → IsAfterCommit told old one → IsAfterCommit told old other → AreAlike one other
after_commit old one other (book.Refused refusal) p q = same one other (p ∙ sym q)
after_commit old one other book.Net p q = settled old one other p q
after_commit old one other (book.Discover found) p q = settled old one other p q
after_commit old one other (book.Route nodes) p q = settled old one other p q
after_commit old one other (book.Control answer) p q = settled old one other p q
after_commit old one other book.Unload p q = settled old one other p q
after_commit old one other (book.Block block) p q = settled old one other p q
after_commit old one other (book.Connect stream) p q = settled old one other p q
after_commit old one other book.Set p q = settled old one other p q
after_commit old one other book.Commit p q = settled old one other p q
after_commit old one other (book.Run run) p q = settled old one other p q
after_commit old one other (book.Twin twin) p q = settled old one other p q
after_commit old one other (book.Duplex duplex) p q = settled old one other p q

pub next_is_one : NextIsOne
next_is_one old (command.Net nodes links room routed limit) told one other p q = same one other (p ∙ sym q)
next_is_one old (command.Discover host lose) told one other p q = same one other (p ∙ sym q)
next_is_one old (command.Route host from to lose) told one other p q = same one other (p ∙ sym q)
next_is_one old (command.Control host to port op addr words enables lose) told one other p q = same one other (p ∙ sym q)
next_is_one old (command.Unload port) told one other p q = same one other (p ∙ sym q)
next_is_one old (command.Block kind ins outs packets time) told one other p q = same one other (p ∙ sym q)
next_is_one old (command.Connect from to flow start policy) told one other p q = same one other (p ∙ sym q)
next_is_one old (command.Set at value) told one other p q = same one other (p ∙ sym q)
next_is_one old command.Commit told one other p q = after_commit old one other told p q
next_is_one old (command.Run seed trace peak lose) told one other p q = same one other (p ∙ sym q)
next_is_one old (command.Twin cut peak lose) told one other p q = same one other (p ∙ sym q)
next_is_one old (command.Duplex host acts seed peak lose) told one other p q = same one other (p ∙ sym q)

-- what is made of each item alike is one list
map_alike : {A : Type 0} (f g : ℕ → A) → ((k : ℕ) → f k ≡ g k) → (ks : List ℕ) → map f ks ≡ map g ks
map_alike f g alike [] = refl
map_alike f g alike (k ∷ ks) = ap (λ x. x ∷ map f ks) (alike k) ∙ ap (λ xs. g k ∷ xs) (map_alike f g alike ks)

-- a block is planned by the values that its properties have
planned_alike : (layout : Layout) (one other : List Pair) → ((at : PropAt) → value_of one at ≡ value_of other at) → (b : ℕ)
    → planned_at layout one b ≡ planned_at layout other b
planned_alike layout one other alike b = rw (alike, alike) refl

pub alike_plan_the_same : AlikePlanTheSame
alike_plan_the_same one other faults alike =
    ap (λ (layout : Layout). plan_of layout one.graph.committed faults) alike.layout
    ∙ ap (λ (blocks : List BlockPlan). record { streams = other.layout.streams; blocks = blocks; faults = faults })
    (map_alike (planned_at other.layout one.graph.committed) (planned_at other.layout other.graph.committed)
    (planned_alike other.layout one.graph.committed other.graph.committed alike.values) (range_with_len 0 (length other.layout.blocks)))
