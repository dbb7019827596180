-- The laws of specs/, with their proofs, for the proofs of other crates.
use Rattle.net_needs.specs.EnteringLaws as entering
use Rattle.net_needs.specs.FeedingLaws as feeding
use Rattle.net_needs.specs.HoppingLaws as hopping
use Rattle.net_needs.specs.Needs as needs
use Rattle.net_needs.specs.Sending as sending
use Rattle.net_needs.specs.Staying as staying
use Rattle.net_needs.proofs.Counting.{counts-rise}
use Rattle.net_needs.proofs.Needs.{lawful-needs}
use Rattle.net_needs.proofs.Sending.{only-enters}
use Rattle.net_needs.proofs.Staying.{sizes-stay}
use Rattle.net_needs.proofs.Entering.{ask-ready, command-ready, enter-ready, reply-ready, report-ready, seen-ready}
use Rattle.net_needs.proofs.Feeding.{feed-ready}
use Rattle.net_needs.proofs.Hopping.{hop-ready, lose-ready}

pub enter_is_ready : entering.EnterIsReady
enter_is_ready = enter-ready

pub command_is_ready : entering.CommandIsReady
command_is_ready = command-ready

pub report_is_ready : entering.ReportIsReady
report_is_ready = report-ready

pub seen_is_ready : entering.SeenIsReady
seen_is_ready = seen-ready

pub ask_is_ready : entering.AskIsReady
ask_is_ready = ask-ready

pub reply_is_ready : entering.ReplyIsReady
reply_is_ready = reply-ready

pub hop_is_ready : hopping.HopIsReady
hop_is_ready = hop-ready

pub lose_is_ready : hopping.LoseIsReady
lose_is_ready = lose-ready

pub feed_is_ready : feeding.FeedIsReady
feed_is_ready = feed-ready

pub lawful_gives_needs : needs.LawfulGivesNeeds
lawful_gives_needs = lawful-needs

pub sizes_stay : staying.SizesStay
sizes_stay = sizes-stay

pub counts_rise : staying.CountsRise
counts_rise = counts-rise

pub only_enters_send : sending.OnlyEntersSend
only_enters_send = only-enters
