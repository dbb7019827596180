-- The worked runs are legal: the one that drains, from a start near the end of a spelled packet count, and the
-- one that a loss halts.
use Rattle.std.proofs.Common.{◌-◌, ◌^◌, refl, inl, inr, arith}
use Rattle.stream_laws.specs.Example.{IsHaltedRun, IsWorked}

pub near_the_end : IsWorked (2 ^ 40 - 2)
near_the_end = record {
  valid = omega arith;
  legal = (
    (refl, (omega arith, (omega arith, (omega arith, (omega arith, (omega arith, (omega arith, tt))))))),
    (
      tt,
      (
        (refl, inl refl),
        (
          (refl, λ e. absurd (cc e)),
          (
            refl,
            (
              refl,
              (
                (refl, (refl, (omega arith, omega arith))),
                (
                  (refl, (refl, (omega arith, omega arith))),
                  (
                    (refl, (refl, (omega arith, omega arith))),
                    (
                      (refl, (refl, (omega arith, omega arith))),
                      (
                        refl,
                        (
                          (refl, refl),
                          (
                            (refl, refl),
                            (
                              (refl, refl),
                              (
                                (omega arith, omega arith),
                                (
                                  refl,
                                  (
                                    refl,
                                    (
                                      (refl, inl refl),
                                      (
                                        refl,
                                        (
                                          (refl, inr (record { none_forward = refl; none_back = refl; none_due = refl; all_taken = refl })),
                                          (
                                            refl,
                                            (
                                              refl,
                                              (
                                                refl,
                                                (
                                                  (refl, inr (record { none_forward = refl; none_back = refl; none_due = refl; all_taken = refl })),
                                                  (
                                                    refl,
                                                    (
                                                      refl,
                                                      (
                                                        refl,
                                                        (
                                                          (refl, (refl, (omega arith, omega arith))),
                                                          (
                                                            (refl, (refl, (omega arith, omega arith))),
                                                            (
                                                              refl,
                                                              (
                                                                (refl, refl),
                                                                (
                                                                  (omega arith, omega arith),
                                                                  (
                                                                    refl,
                                                                    (
                                                                      refl,
                                                                      (
                                                                        record { running = refl; quiet = record { none_forward = refl; none_back = refl; none_due = refl; all_taken = refl }; not_covered = refl; stuck = refl },
                                                                        (
                                                                          (refl, λ e. absurd (cc e)),
                                                                          (
                                                                            refl,
                                                                            (
                                                                              refl,
                                                                              (
                                                                                (refl, inl refl),
                                                                                (
                                                                                  refl,
                                                                                  (
                                                                                    refl,
                                                                                    (
                                                                                      refl,
                                                                                      tt,
                                                                                    ),
                                                                                  ),
                                                                                ),
                                                                              ),
                                                                            ),
                                                                          ),
                                                                        ),
                                                                      ),
                                                                    ),
                                                                  ),
                                                                ),
                                                              ),
                                                            ),
                                                          ),
                                                        ),
                                                      ),
                                                    ),
                                                  ),
                                                ),
                                              ),
                                            ),
                                          ),
                                        ),
                                      ),
                                    ),
                                  ),
                                ),
                              ),
                            ),
                          ),
                        ),
                      ),
                    ),
                  ),
                ),
              ),
            ),
          ),
        ),
      ),
    ),
  );
  sent = refl;
  given = refl;
  lost = refl;
  cuts = refl;
  losses = refl;
  drained = record { closed = refl; none_ready = refl; running = refl; covered = refl; all_taken = refl };
}

pub halted_run : IsHaltedRun
halted_run = record {
  valid = omega arith;
  legal = ((refl, (omega arith, (omega arith, (omega arith, tt)))), (tt, ((refl, inl refl), ((refl, λ e. absurd (cc e)), (refl, (refl, ((refl, (refl, (omega arith, omega arith))), ((refl, (refl, (omega arith, omega arith))), ((refl, (refl, (omega arith, omega arith))), (refl, ((refl, refl), ((refl, refl), ((omega arith, omega arith), (refl, (refl, tt)))))))))))))));
  halts = record { state = refl; off = refl; some_lost = omega arith };
  given = refl;
}
