-- No line is longer than `longest_line`, and one is as long.
use Prim.Native.Nat.{◌≤◌}
use mathlib.Core.Path.{◌≡◌}
use mathlib.Core.Bool.{true}
use mathlib.Core.List.{[]}
use native.Mathlib.Omega.{arith}
use lib.Dec.{leb}
use lib.ListN.{length}
use borrow.Author.Tests.{le-leb, leb-true}
use Rattle.runs.proofs.Cases.{and_both}
use Rattle.pcs.proofs.Allowed.{sendable}
use Rattle.mdu.specs.Frame.{length_ok}
use Rattle.mdu.proofs.Known.{length_most}
use Rattle.dle.specs.Frame.{Message, Typed, content, error, ok}
use Rattle.expansion.proofs.Judge.{content-length, content-fits}
use Rattle.listing_text.specs.Text.{line}
use Rattle.lister.specs.Lines.{dle_line}
use Rattle.lister.specs.Feeding.{longest_line}
use Rattle.lister.specs.Claims.{LongestLine}
use Rattle.lister.proofs.Texts.{link_fits, message_fits, message_longest, refused_fits, end_fits}

dle_few : (m : Message) → Typed m → ok m ≡ true → length (line (dle_line m)) ≤ longest_line
dle_few (content s n d) t h = message_fits n d t.1 (omega (arith, leb-true (length d) 255 (and_both (leb 1 (length d)) (leb (length d) 255) h).1))
dle_few (error s n e) t h = message_fits n [] t.1 (omega arith)

pub lines_fit : LongestLine
lines_fit =
    record {
      letter = link_fits;
      pcs = λ m t h. message_fits m.sender m.payload t.sender (omega (arith, (sendable m h).most));
      mdu = λ m t h. message_fits m.address m.body t.0 (length_most (length m.body) (and_both (leb 1 m.address) (length_ok (length m.body)) h).1);
      dle = dle_few;
      expansion = λ m t h. message_fits m.address m.payload t.address (omega (arith, content-length m, content-fits m h));
      refusal = refused_fits;
      end = end_fits;
      reached = λ m t l h. (rw (le-leb 1 m.address (omega arith), h), message_longest m.address m.body l t.0 h);
    }
