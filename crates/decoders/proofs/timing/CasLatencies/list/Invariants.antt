-- The loop's invariant: the latencies of the bits passed are laid into the lent list, and n counts them. The search finds no invariant. Assumes nothing.
use Rattle.std.proofs.Common.{◌≡◌, length}
use Rattle.reading.specs.Lent.{laid}
use Rattle.decoders.specs.Cas.{first_latencies}
use Rattle.decoders.proofs.timing.CasLatencies.list.Given as goal

abbrev pub invariant-loop-bit : goal.invariant-loop-bit
invariant-loop-bit l = record {
  counted : l.n ≡ length (first_latencies l.self l.bit);
  listed : l.out ≡ laid (first_latencies l.self l.bit) l.initial.out;
}
