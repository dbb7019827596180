-- The generated script is within the limits of the language.
use Rattle.std.proofs.Common.{◌≡◌, ℕ, ◌≤◌, refl, arith, inl, true}
use Rattle.std.proofs.lemmas.Bool.Decides.{nat_tests}
use Rattle.std.specs.Prelude.{nat_le}
use Rattle.block_library.specs.declared.kind.BlockKind.TheVariants.{Fifo, Keep}
use Rattle.graph_core.specs.declared.place.Prop.TheVariants.{Rate, Item, Spp}
use Rattle.rf_script_types.specs.declared.table.Number.{Number}
use Rattle.rf_script_types.specs.declared.table.TheConstants.{ROOM, PORTS, NODE_EPID, LINK_NODE, LINK_PORT, KEEP, IN_EPID, OUT_EPID, FROM_PORT, TO_PORT, START, SET_BLOCK, SET_PORT, RATE, SPP, SEED}
use Rattle.rf_script_types.specs.Fits.{FitsCommand, FitsLink, FitsNode, FitsScript, IsIn}
use Rattle.rf_script.specs.Generated.{endpoint, generated, host, join, link, net, run, rx, setting, through, tx}

in-range : (range : Number) (n : ℕ) → nat_le range.low n ≡ true → nat_le n range.high ≡ true → IsIn range n
in-range range n low high = (grind (arith, nat_tests, low), grind (arith, nat_tests, high))

-- of a range that begins at 0
at-most : (range : Number) (n : ℕ) → nat_le range.low 0 ≡ true → nat_le n range.high ≡ true → IsIn range n
at-most range n low high = (grind (arith, nat_tests, low), grind (arith, nat_tests, high))

a-host : (n : ℕ) → nat_le 1 n ≡ true → nat_le n 65535 ≡ true → FitsNode (host n)
a-host n low high = in-range NODE_EPID n low high

an-endpoint : (n : ℕ) → nat_le 1 n ≡ true → nat_le n 65535 ≡ true → FitsNode (endpoint n)
an-endpoint n low high = (in-range NODE_EPID n low high, tt)

a-link : (port node : ℕ) → nat_le port 255 ≡ true → nat_le node 255 ≡ true → FitsLink (link port node)
a-link port node p n = (
  in-range LINK_NODE 0 refl refl,
  at-most LINK_PORT port refl p,
  at-most LINK_NODE node refl (grind (arith, nat_tests, n)),
  in-range LINK_PORT 0 refl refl,
)

net-fits : FitsCommand 1 net
net-fits = record {
  some = omega arith;
  each_node = (
    in-range PORTS 8 refl refl,
    (
      a-host 1 refl refl,
      (
        a-host 2 refl refl,
        (
          an-endpoint 3 refl refl,
          (
            an-endpoint 4 refl refl,
            (a-host 5 refl refl, (a-host 6 refl refl, (an-endpoint 7 refl refl, (an-endpoint 8 refl refl, tt)))),
          ),
        ),
      ),
    ),
  );
  each_link = (
    a-link 0 1 refl refl,
    (
      a-link 1 2 refl refl,
      (
        a-link 2 3 refl refl,
        (
          a-link 3 4 refl refl,
          (a-link 4 5 refl refl, (a-link 5 6 refl refl, (a-link 6 7 refl refl, (a-link 7 8 refl refl, tt)))),
        ),
      ),
    ),
  );
  room_is_in = in-range ROOM 4 refl refl;
  limit_is = refl;
}

tx-fits : (e n : ℕ) → nat_le 1 e ≡ true → nat_le e 65535 ≡ true → 1 ≤ n → n ≤ 16384 → FitsCommand 1 (tx e n)
tx-fits e n low high some few = record {
  number_fits = tt;
  ins_fit = (refl, tt);
  outs_fit = (refl, (in-range OUT_EPID e low high, tt));
  count_fits = ((some, few), tt);
}

rx-fits : (e : ℕ) → nat_le 1 e ≡ true → nat_le e 65535 ≡ true → FitsCommand 1 (rx e)
rx-fits e low high = record {
  number_fits = tt;
  ins_fit = (refl, (in-range IN_EPID e low high, tt));
  outs_fit = (refl, tt);
  count_fits = (refl, refl);
}

fifo-fits : (e : ℕ) → nat_le 1 e ≡ true → nat_le e 65535 ≡ true → FitsCommand 1 (through Fifo e)
fifo-fits e low high = record {
  number_fits = tt;
  ins_fit = (refl, (in-range IN_EPID e low high, tt));
  outs_fit = (refl, (in-range OUT_EPID e low high, tt));
  count_fits = (refl, refl);
}

keep-fits : (e : ℕ) → nat_le 1 e ≡ true → nat_le e 65535 ≡ true → FitsCommand 1 (through (Keep 2) e)
keep-fits e low high = record {
  number_fits = in-range KEEP 2 refl refl;
  ins_fit = (refl, (in-range IN_EPID e low high, tt));
  outs_fit = (refl, (in-range OUT_EPID e low high, tt));
  count_fits = (refl, refl);
}

join-fits : (from to : ℕ) → nat_le from 255 ≡ true → nat_le to 255 ≡ true → FitsCommand 1 (join from to)
join-fits from to f t = (
  at-most FROM_PORT from refl (grind (arith, nat_tests, f)),
  in-range FROM_PORT 0 refl refl,
  at-most TO_PORT to refl (grind (arith, nat_tests, t)),
  in-range TO_PORT 0 refl refl,
  record {
    some_bytes = omega arith;
    enough_bytes = omega arith;
    few_bytes = omega arith;
    some_packets = omega arith;
    enough_packets = omega arith;
    few_packets = omega arith;
    not_short = omega arith;
    not_long = omega arith;
  },
  in-range START 0 refl refl,
)

rate-fits : (block : ℕ) → nat_le block 255 ≡ true → FitsCommand 1 (setting block Rate 2000000)
rate-fits block b = (at-most SET_BLOCK block refl (grind (arith, nat_tests, b)), in-range SET_PORT 0 refl refl, in-range RATE 2000000 refl refl)

item-fits : (block : ℕ) → nat_le block 255 ≡ true → FitsCommand 1 (setting block Item 4)
item-fits block b = (at-most SET_BLOCK block refl (grind (arith, nat_tests, b)), in-range SET_PORT 0 refl refl, inl refl)

spp-fits : (block : ℕ) → nat_le block 255 ≡ true → FitsCommand 1 (setting block Spp 364)
spp-fits block b = (at-most SET_BLOCK block refl (grind (arith, nat_tests, b)), in-range SET_PORT 0 refl refl, in-range SPP 364 refl refl)

run-fits : FitsCommand 1 run
run-fits = (in-range SEED 0 refl refl, (omega arith, tt))

pub generated_fits : (n : ℕ) → 1 ≤ n → n ≤ 16384 → FitsScript (generated n)
generated_fits n some few = record {
  version = inl refl;
  few = omega arith;
  commands = (
    net-fits,
    (
      tx-fits 1 n refl refl some few,
      (
        fifo-fits 3 refl refl,
        (
          keep-fits 4 refl refl,
          (
            rx-fits 2 refl refl,
            (
              tx-fits 5 n refl refl some few,
              (
                fifo-fits 7 refl refl,
                (
                  keep-fits 8 refl refl,
                  (
                    rx-fits 6 refl refl,
                    (
                      join-fits 0 1 refl refl,
                      (
                        join-fits 1 2 refl refl,
                        (
                          join-fits 2 3 refl refl,
                          (
                            join-fits 4 5 refl refl,
                            (
                              join-fits 5 6 refl refl,
                              (
                                join-fits 6 7 refl refl,
                                (
                                  rate-fits 0 refl,
                                  (
                                    item-fits 0 refl,
                                    (
                                      spp-fits 0 refl,
                                      (
                                        rate-fits 4 refl,
                                        (
                                          item-fits 4 refl,
                                          (
                                            spp-fits 4 refl,
                                            (tt, (run-fits, tt)),
                                          ),
                                        ),
                                      ),
                                    ),
                                  ),
                                ),
                              ),
                            ),
                          ),
                        ),
                      ),
                    ),
                  ),
                ),
              ),
            ),
          ),
        ),
      ),
    ),
  );
}
