use Rattle.std.proofs.Common.{refl}
use Rattle.fabric_net.proofs.Standing.{stands-loaded, with-banks}
use Rattle.fabric_net.proofs.net.Net.stands.Goals as goal

pub returns : goal.returns
returns c =
    rw (← c.self.view_is) (λ banks. (with-banks c.self.invariant.state banks, stands-loaded _ c.self.invariant.state banks c.self.invariant.stands, refl))
