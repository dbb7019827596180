-- Packets within a bound are small, and those of a plan are within its bound.
use Rattle.std.proofs.Common.{◌≡◌, ◌+◌, ◌*◌, ◌%◌, ◌≤◌, ◌∙◌, ℕ, zero, suc, Bool, true, false, cond, refl, sym, ap, subst, arith, length, length-append, Option, Some, None, IsTrue}
use Rattle.std.specs.Prelude.{IsSome, is_some, option_map}
use Rattle.std.specs.Int.{bytes_low_first}
use Rattle.std.specs.List.{range_with_len}
use Rattle.std.proofs.Math.Nat.{mul-mod_left}
use Rattle.std.proofs.lemmas.List.Elements.{All-map}
use Rattle.chdr_words.specs.Wire.{wire_size_of, time_bytes}
use Rattle.chdr_packets.specs.declared.packet.Packet.{Packet}
use Rattle.chdr_packets.specs.declared.packet.Body.{Body}
use Rattle.chdr_packets.specs.declared.packet.Body.TheVariants.{Samples, Status, Command, Control, Management}
use Rattle.chdr_packets.specs.Fits.{FitsBody}
use Rattle.chdr_packets.specs.Length.{body_length, length_of}
use Rattle.block_library.specs.declared.plan.TxPlan.{TxPlan}
use Rattle.block_library.specs.Blocks.{HoldsSamples, payload_in, time_in}
use Rattle.block_library.specs.Producer.{packet_of, produced}
use Rattle.block_library.specs.Samples.{sample, samples_from}
use Rattle.block_library.specs.Within.{IsWithin, WithinIsSmall, WithinIsOfAll, PlansAreWithin}

-- the time takes its word, if times are told
time-small : (timed : Bool) (time : Option ℕ) → (IsSome time → IsTrue timed) → time_bytes time ≤ cond timed 8 0
time-small true None at = omega arith
time-small true (Some t) at = omega arith
time-small false None at = omega arith
time-small false (Some t) at = let z : false ≡ true = at refl in absurd cc

-- a body of samples has its time and its bytes, and fits
record IsSmall (item : ℕ) (body : Body) : Type 0 where
  pub size : body_length body ≡ time_bytes (time_in body) + length (payload_in body)
  pub fits : FitsBody body

body-small : (item : ℕ) (body : Body) → HoldsSamples item body → IsSmall item body
body-small item (Samples time payload) h = record { size = refl; fits = tt }
body-small item (Status status) h = absurd h
body-small item (Command command) h = absurd h
body-small item (Control control) h = absurd h
body-small item (Management management) h = absurd h

length-small : (item most : ℕ) (timed : Bool) (p : Packet) → IsWithin item most timed p → length_of p ≤ 8 + cond timed 8 0 + most
length-small item most timed p w =
    let time = time-small timed (time_in p.body) w.time in
    let size = w.size in
    let body = (body-small item p.body w.feed.body).size in
    let mdata : length p.mdata ≡ 0 = ap length w.feed.mdata in
    omega arith

wire-small : (a b : ℕ) → a ≤ b → wire_size_of a ≤ wire_size_of b
wire-small a b h = omega arith

pub within_is_small : WithinIsSmall
within_is_small item most timed p w =
    let len = length-small item most timed p w in (
      wire-small (length_of p) (8 + cond timed 8 0 + most) len,
      λ high. record {
        vc = let e = w.feed.vc in omega arith;
        mdata = let e : length p.mdata ≡ 0 = ap length w.feed.mdata in omega arith;
        body = (body-small item p.body w.feed.body).fits;
        len = elim timed as (λ b. length_of p ≤ 8 + cond b 8 0 + most → length_of p ≤ 65535) [ true ↦ λ l. omega arith | false ↦ λ l. omega arith ] len;
      },
    )

pub within_is_of_all : WithinIsOfAll
within_is_of_all item most timed p q vc mdata body w = record {
  feed = record {
    vc = vc ∙ w.feed.vc;
    mdata = mdata ∙ w.feed.mdata;
    body = subst (HoldsSamples item) (sym body) w.feed.body;
  };
  size = subst (λ b. length (payload_in b) ≤ most) (sym body) w.size;
  time = subst (λ b. IsSome (time_in b) → IsTrue timed) (sym body) w.time;
}

length-sample : (i item number : ℕ) → length (bytes_low_first i item number) ≡ item
length-sample i zero number = refl
length-sample i (suc item) number = omega (arith, length-sample (suc i) item number)

pub length-samples_from : (item first count : ℕ) → length (samples_from item first count) ≡ count * item
length-samples_from item first zero = omega arith
length-samples_from item first (suc count) =
    omega (arith, length-append (sample item first) (samples_from item (first + 1) count), length-sample 0 item first, length-samples_from item (first + 1) count)

map_time : (f : ℕ → ℕ) (time : Option ℕ) → IsSome (option_map f time) → IsTrue (is_some time)
map_time f None h = h
map_time f (Some t) h = refl

packet_of-within : (plan : TxPlan) (k : ℕ) → IsWithin plan.item (plan.spp * plan.item) (is_some plan.time) (packet_of plan k)
unfolding packet_of
packet_of-within plan k =
    let long = length-samples_from plan.item (k * plan.spp) plan.spp in
    record {
      feed = record { vc = refl; mdata = refl; body = ap (λ n. n % plan.item) long ∙ mul-mod_left plan.spp plan.item };
      size = omega (arith, long);
      time = map_time _ plan.time;
    }

pub plans_are_within : PlansAreWithin
unfolding produced
plans_are_within plan fits =
    All-map (IsWithin plan.item (plan.spp * plan.item) (is_some plan.time)) (packet_of plan) (range_with_len 0 plan.packets)
    (λ k d h. packet_of-within plan _)
