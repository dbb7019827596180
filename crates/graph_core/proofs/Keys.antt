-- The derived `==` of the places is equality.
use Rattle.std.proofs.Common.{◌≡◌, true, rules}
use Rattle.std.specs.Cmp.{IsEquivalence}
use Rattle.graph_core.specs.declared.place.PropAt.{PropAt}
use Rattle.graph_core.specs.contracts.place.PropAtEq.TheImpl.Laws.{laws-law}
use Rattle.graph_core.specs.contracts.place.PropAtPartialEq.TheImpl.{eq-value}

pub same_key : (a b : PropAt) → eq-value.it a b ≡ true → a ≡ b
same_key a b h = search rules

pub key_laws : IsEquivalence eq-value.it
key_laws = laws-law

pub same_itself : (a : PropAt) → eq-value.it a a ≡ true
same_itself a = key_laws.refl a
