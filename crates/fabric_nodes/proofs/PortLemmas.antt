-- The exit of a hop's operations, one after another.
use Rattle.std.proofs.Common.{◌≡◌, ℕ, ◌+◌, ◌<◌, List, length, sym, ◌∙◌, ap, get_or, take}
use Rattle.std.proofs.lemmas.List.Sums.{fold_more}
use Rattle.chdr_words.specs.Operation.{operation_of}
use Rattle.chdr_words.specs.declared.management.MgmtOp.{MgmtOp}
use Rattle.chdr_words.specs.declared.operation.Operation.{Operation}
use Rattle.net_nodes.specs.declared.site.Done.{Done}
use Rattle.net_nodes.specs.declared.site.Done.TheVariants as done
use Rattle.net_nodes.specs.declared.site.Site.{Site}
use Rattle.fabric_nodes.specs.Exits.{exit_after, exit_of_hop}

-- the exit after one operation more
pub hop_more : (site : Site) (ops : List MgmtOp) (i : ℕ) (exit next : Done) (o : Operation) (word : MgmtOp) → i < length ops
    → exit ≡ exit_of_hop site (take i ops) → o ≡ operation_of (get_or ops i word) → next ≡ exit_after site exit o
    → next ≡ exit_of_hop site (take (i + 1) ops)
hop_more site ops i exit next o word there so_far is leads =
    leads ∙ ap (λ (x : Operation). exit_after site exit x) is
    ∙ ap (λ (e : Done). exit_after site e (operation_of (get_or ops i word))) so_far
    ∙ sym (fold_more (λ e w. exit_after site e (operation_of w)) done.Dead ops i word there)
