use Rattle.std.proofs.Common.{◌≡◌, length, take}
use Rattle.generated_windows.specs.Generated.{bytes_from}
use Rattle.generated_windows.proofs.generate.rising.Given as goal

abbrev pub invariant-loop-j : goal.invariant-loop-j
invariant-loop-j l = record {
  long : length l.bytes ≡ 64;
  done : take l.j l.bytes ≡ bytes_from l.first l.j;
}
