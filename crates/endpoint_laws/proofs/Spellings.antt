-- What a status or a command spells means the whole counts that were meant.
use Rattle.std.proofs.Common.{◌≡◌, ◌≤◌, ◌<◌, ℕ, ◌+◌, ◌-◌, ◌%◌, ◌^◌, refl, ◌∙◌, ap, arith}
use Rattle.chdr_words.specs.declared.command.CmdOp.TheVariants.{Init, Ping, Resync, Other}
use Rattle.stream_endpoint.specs.declared.count.Count.{Count}
use Rattle.stream_endpoint.specs.Counts.{spelled_minus}
use Rattle.stream_endpoint.specs.Sender.{hears_left}
use Rattle.endpoint_laws.specs.Laws.{CommandMeans, SpelledIsHeard, StatusSpells}
use Rattle.endpoint_laws.proofs.KeptEnds.{left-spelled}

part40 : (a b : ℕ) → b ≤ a → (a + (2 ^ 40 - b % 2 ^ 40)) % 2 ^ 40 ≡ (a - b) % 2 ^ 40
part40 a b le = omega arith

part64 : (a b : ℕ) → b ≤ a → (a + (2 ^ 64 - b % 2 ^ 64)) % 2 ^ 64 ≡ (a - b) % 2 ^ 64
part64 a b le = omega arith

pub status_spells : StatusSpells
status_spells end packets bytes = record {
  code = refl;
  counts = rw (part40 end.receiver.reached.packets end.receiver.buffered.packets packets, part64 end.receiver.reached.bytes end.receiver.buffered.bytes bytes) refl;
}

pub spelled_is_heard : SpelledIsHeard
spelled_is_heard status told policy s spells =
    ap (λ (t : Count). hears_left policy status.code (spelled_minus s.sent t) s) spells.counts
    ∙ ap (λ (l : Count). hears_left policy status.code l s) (left-spelled s.sent told.told)
    ∙ rw spells.code refl

small40 : (n : ℕ) → n < 2 ^ 40 → n % 2 ^ 40 ≡ n
small40 n lt = omega arith

small64 : (n : ℕ) → n < 2 ^ 40 → n % 2 ^ 64 ≡ n
small64 n lt = omega arith

pub command_means : CommandMeans
command_means Init end valid =
    rw (small40 end.flow.freq_packets (omega (arith, valid.enough_packets, valid.few_packets)), small64 end.flow.freq_bytes (omega (arith, valid.enough_bytes, valid.few_bytes))) refl
command_means Ping end valid = tt
command_means Resync end valid = rw (twice40 end.sender.sent.packets, twice64 end.sender.sent.bytes) refl
  where
    twice40 : (n : ℕ) → n % 2 ^ 40 % 2 ^ 40 ≡ n % 2 ^ 40
    twice40 n = omega arith

    twice64 : (n : ℕ) → n % 2 ^ 64 % 2 ^ 64 ≡ n % 2 ^ 64
    twice64 n = omega arith
command_means (Other code) end valid = tt
