-- A frame as it is written: the start mark, three parts hidden, the end mark.
use Rattle.std.proofs.Common.{◌≡◌, ℕ, ◌+◌, ◌*◌, ◌≤◌, List, [], ◌++◌, length, drop, sym, refl, ap, ◌∙◌, append_assoc, append-nil, zero-add, arith, length-append}
use lib.Seq.{sets}
use Rattle.runs.proofs.Run.{Run, run-start, run-part, sets_over}
use Rattle.runs.proofs.Each.{each_append}
use Rattle.escape.specs.Code.{Code, hide}
use Rattle.escape.specs.Lawful.{Lawful}
use Rattle.escape.proofs.Lawful.{hide_short}

module _ (code : Code) (header rest trailer : List ℕ) where
  hidden_parts : hide code (header ++ (rest ++ trailer)) ≡ hide code header ++ (hide code rest ++ hide code trailer)
  hidden_parts =
      each_append code.hide_byte header (rest ++ trailer)
      ∙ ap (λ (w : List ℕ). hide code header ++ w) (each_append code.hide_byte rest trailer)

  pub hidden_total : length (hide code (header ++ (rest ++ trailer))) ≡ length (hide code header) + length (hide code rest) + length (hide code trailer)
  hidden_total = ap length hidden_parts ∙ simp length-append (omega arith)

  pub hidden_most : Lawful code
      → length (hide code header) + length (hide code rest) + length (hide code trailer) ≤ 2 * (length header + length rest + length trailer)
  hidden_most lawful = omega (arith, hide_short code lawful header, hide_short code lawful rest, hide_short code lawful trailer)

  module _ (start end out : List ℕ) where
    -- the frame, part by part
    pub parts : start ++ (hide code (header ++ (rest ++ trailer)) ++ end) ≡ start ++ (hide code header ++ (hide code rest ++ (hide code trailer ++ end)))
    parts =
        ap (λ (w : List ℕ). start ++ (w ++ end)) hidden_parts
        ∙ ap (λ (w : List ℕ). start ++ w)
        (append_assoc (hide code header) (hide code rest ++ hide code trailer) end
        ∙ ap (λ (w : List ℕ). hide code header ++ w) (append_assoc (hide code rest) (hide code trailer) end))

    pub frame_length : length (start ++ (hide code (header ++ (rest ++ trailer)) ++ end))
        ≡ length start + length end + length (hide code (header ++ (rest ++ trailer)))
    frame_length = simp length-append (omega arith)

    -- so far n bytes of it are stored, and these are left
    abbrev pub Stored : ℕ → List ℕ → List ℕ → Type 0
    Stored n left o = Run out 0 (start ++ (hide code (header ++ (rest ++ trailer)) ++ end)) n left o

    more : {n : ℕ} (m : ℕ) (v : List ℕ) {before left o : List ℕ} (p : List ℕ) → Stored n before o → before ≡ v ++ left → m ≡ n + length v → p ≡ sets o n v
        → Stored m left p
    more {n} m v {before} {left} {o} p r s k e = run-part v r s k (e ∙ ap (λ (i : ℕ). sets o i v) (sym (zero-add n)))

    module _ (marked : List ℕ) (fit : length start + length end + length (hide code (header ++ (rest ++ trailer))) ≤ length out) (m : marked ≡ start) where
      pub one : Stored (length start) (hide code header ++ (hide code rest ++ (hide code trailer ++ end))) (marked ++ drop (length start) out)
      one =
          run-part start (run-start (omega (arith, frame_length)) (sym parts)) refl (omega arith)
          (ap (λ (w : List ℕ). w ++ drop (length start) out) m ∙ sym (sets_over start out (omega arith)))

      module _ (a : ℕ) (headed : List ℕ) (ta : a ≡ length (hide code header)) (pa : headed ≡ sets (marked ++ drop (length start) out) (length start) (hide code header)) where
        pub two : Stored (length start + a) (hide code rest ++ (hide code trailer ++ end)) headed
        two = more _ (hide code header) headed one refl (ap (λ (n : ℕ). length start + n) ta) pa

        module _ (b : ℕ) (filled : List ℕ) (tb : b ≡ length (hide code rest)) (pb : filled ≡ sets headed (length start + a) (hide code rest)) where
          pub three : Stored (length start + a + b) (hide code trailer ++ end) filled
          three = more _ (hide code rest) filled two refl (ap (λ (n : ℕ). length start + a + n) tb) pb

          module _ (d : ℕ) (closed : List ℕ) (td : d ≡ length (hide code trailer)) (pd : closed ≡ sets filled (length start + a + b) (hide code trailer)) where
            pub four : Stored (length start + a + b + d) end closed
            four = more _ (hide code trailer) closed three refl (ap (λ (n : ℕ). length start + a + b + n) td) pd

            pub five : (after : List ℕ) → after ≡ sets closed (length start + a + b + d) end → Stored (length start + a + b + d + length end) [] after
            five after e = more _ end after four (sym (append-nil end)) refl e
