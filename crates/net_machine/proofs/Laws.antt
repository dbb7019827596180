-- The laws of specs/Laws, with their proofs, for the proofs of other crates.
use Rattle.net_machine.specs.Laws as law
use Rattle.net_machine.proofs.Choosing.{chosen-enabled, nothing-chosen}
use Rattle.net_machine.proofs.Shaping.{all-shapes, shape-stays}
use Rattle.net_machine.proofs.Threads.{chosen-whole}
pub use Rattle.net_machine.proofs.PlaceLemmas.{fronts, queues, runs}

pub shape_stays : law.ShapeStays
shape_stays = shape-stays

pub shapes_stay : law.ShapesStay
shapes_stay = all-shapes

pub chosen_is_enabled : law.ChosenIsEnabled
chosen_is_enabled = chosen-enabled

pub nothing_is_chosen : law.NothingIsChosen
nothing_is_chosen = nothing-chosen

pub chosen_is_whole : law.ChosenIsWhole
chosen_is_whole = chosen-whole
