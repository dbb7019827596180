-- The laws of specs/, with their proofs, for the proofs of other crates.
use Rattle.std.proofs.Common.{subst, sym, ◌<◌, length}
use Rattle.net_machine.specs.declared.plan.RunPlan.{RunPlan}
use Rattle.net_machine.specs.Begin.{begun}
use Rattle.net_machine.proofs.Laws.{shapes_stay}
use Rattle.net_lawful.proofs.Laws.{all_are_lawful, begun_is_lawful}
use Rattle.net_promises.specs.Arriving as arriving
use Rattle.net_promises.specs.Held as held
use Rattle.net_promises.specs.Laws as law
use Rattle.net_promises.specs.Peaks as peaks
use Rattle.net_promises.proofs.Arriving.{arrivals-find-room}
use Rattle.net_promises.proofs.Holding.{feeds-fit, fits-present, requests-fit, streams-within}
use Rattle.net_promises.proofs.Peaking.{tallies-kept}
use Rattle.net_promises.proofs.Promising.{keeps-promises}

pub lawful_keeps_promises : law.LawfulKeepsPromises
lawful_keeps_promises = keeps-promises

pub runs_keep_promises : law.RunsKeepPromises
runs_keep_promises plan w moves s lt lawful rest can legal =
    let shape = shapes_stay (begun plan w) moves in
    keeps-promises _ s (subst (λ (p : RunPlan). s < length p.streams) (sym shape.plan) lt)
    (all_are_lawful (begun plan w) moves (begun_is_lawful plan w lawful rest can) legal)

pub lawful_fits_present : law.LawfulFitsPresent
lawful_fits_present = fits-present

pub streams_are_within : held.StreamsAreWithin
streams_are_within = streams-within

pub arrivals_find_room : arriving.ArrivalsFindRoom
arrivals_find_room = arrivals-find-room

pub requests_fit : arriving.RequestsFit
requests_fit = requests-fit

pub feeds_fit : arriving.FeedsFit
feeds_fit = feeds-fit

pub tallies_are_kept : peaks.TalliesAreKept
tallies_are_kept = tallies-kept
