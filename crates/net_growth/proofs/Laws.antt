-- The laws of specs/, with their proofs, for the proofs of other crates.
use Rattle.net_growth.specs.Growing as growing
use Rattle.net_growth.specs.Sending as sending
use Rattle.net_growth.specs.Taking as taking
use Rattle.net_growth.proofs.Growing.{given-grows}
use Rattle.net_growth.proofs.Sending.{only-enters-send}
use Rattle.net_growth.proofs.Taking.{seen-takes}

pub given_grows : growing.GivenGrows
given_grows = given-grows

pub seen_takes : taking.SeenTakes
seen_takes = seen-takes

pub only_enters_send : sending.OnlyEntersSend
only_enters_send = only-enters-send
