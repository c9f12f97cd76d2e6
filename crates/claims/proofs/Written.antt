-- What is proved of specs/Written.antt.
use Rattle.std.specs.Prelude.{ℕ, ◌≤◌, true, List, ◌∷◌, ◌≡◌, refl, length, take, drop, leb}
use Rattle.std.proofs.Common.{sym, ap, ◌∙◌, le-leb}
use Rattle.std.proofs.Math.Seq.{take-append_seam, drop-append_seam}
use Rattle.std.proofs.lemmas.Bool.{lt-leb}
use Rattle.sets.specs.Bytes.{over}
use Rattle.sets.proofs.Loops.{else-zero}
use Rattle.fields.specs.Fields.{unless}
use Rattle.chart.specs.Held.{chart_code}
use Rattle.chart.specs.declared.chart.Chart.{Chart}
use Rattle.chart.proofs.held.Each.{either, else-each, chart-each}
use Rattle.reader.specs.Reading.{read_chart}
use Rattle.reader.proofs.reading.Accepted.{read-accepted}
use Rattle.cycle.proofs.cycling.Laws.{stops, goes_on}
use Rattle.writer.specs.Writing.{file_of, write_code, wrote, refused, write_chart}
use Rattle.writer.specs.Back.{Bytes}
use Rattle.writer.specs.Answer.{Writing}
use Rattle.writer.proofs.ReadBack.{read-file}
use Rattle.writer.proofs.WriteBack.{write-file}
use Rattle.writer.proofs.writing.Laws.{file-length}
use Rattle.claims.specs.Answers.{one_of}
use Rattle.claims.proofs.Numbers.{picked, refused-one}
use Rattle.claims.specs.Written.{writing_numbers, WritingAnswer, ReadBack}

module _ (c : Chart) (lent : List ℕ) where
  abbrev written : Writing × List ℕ
  written = write_chart c lent

  abbrev few : ℕ
  few = unless (leb (length (file_of c)) (length lent)) 17

  number : written.0.code ≡ write_code c lent
  number = picked (λ (w : Writing × List ℕ). w.0.code) (write_code c lent) (wrote c lent) (refused (write_code c lent), lent) refl refl

  turned-away : (written.0.code ≡ 0 → ⊥) → ◌≡◌ {A = Writing × List ℕ} written (refused (write_code c lent), lent)
  turned-away = refused-one (λ (w : Writing × List ℕ). w.0.code) (write_code c lent) (wrote c lent) (refused (write_code c lent), lent) refl

  let-in : written.0.code ≡ 0 → ◌≡◌ {A = Writing × List ℕ} written (wrote c lent)
  let-in e = rw (sym number ∙ e)

  each : (P : ℕ → Type 0) → P 0 → P 4 → P 5 → P 6 → P 7 → P 9 → P 8 → P 17 → P written.0.code
  each P p0 p4 p5 p6 p7 p9 p8 p17 =
      rw number (else-each P (chart_code c) few (chart-each P p0 p4 p5 p6 p7 p9 p8 c) (either P (leb (length (file_of c)) (length lent)) 0 17 p0 p17))

  pub writing-answers : WritingAnswer c lent written.0 written.1
  writing-answers =
      let f = file_of c in
      let size : Writing × List ℕ → ℕ = λ w. w.0.length in
      record {
        numbered = each (λ n. one_of (0 ∷ writing_numbers) n ≡ true) refl refl refl refl refl refl refl refl;
        bad-chart = λ z. number ∙ sym (stops (chart_code c) few z);
        few_bytes = λ e h. number ∙ sym (goes_on (chart_code c) few e) ∙ rw (lt-leb (length f) (length lent) h);
        accepted = λ e h. number ∙ sym (goes_on (chart_code c) few e) ∙ rw (le-leb (length f) (length lent) h);
        no_length = λ z. ap size (turned-away z);
        untouched = λ z. ap (λ (w : Writing × List ℕ). w.1) (turned-away z);
        long = λ e. ap size (let-in e) ∙ file-length c;
        writes = λ e. ap (λ (w : Writing × List ℕ). take w.0.length w.1) (let-in e) ∙ take-append_seam f (drop (length f) lent);
        no-others = λ e.
            ap (λ (w : Writing × List ℕ). drop w.0.length w.1) (let-in e)
            ∙ drop-append_seam f (drop (length f) lent)
            ∙ ap (λ (n : ℕ). drop n lent) (sym (ap size (let-in e)));
      }

  -- ---- there and back

  -- "Reading what was written gives the same chart as far as its counts reach", with zeros beyond them
  pub read_back : ReadBack c lent
  read_back t e =
      ap read_chart (writing-answers.writes e) ∙ read-file c t (else-zero (chart_code c) few (sym number ∙ e)).0

-- "writing what was read gives the same bytes", for every accepted file
pub write-back : (s lent : List ℕ) → Bytes s → (read_chart s).code ≡ 0 → length s ≤ length lent
    → ◌≡◌ {A = Writing × List ℕ} (write_chart (read_chart s).chart lent) (record { code = 0; length = length s }, over lent 0 s)
write-back s lent b e h =
    let f = write-file s b e in
    let c = (read_chart s).chart in
    let z = (writing-answers c lent).accepted (read-accepted s e).passes (rw f h) in
    let-in c lent z ∙ rw f

-- so reading after writing after reading is the reading
pub read_again : (s lent : List ℕ) → Bytes s → (read_chart s).code ≡ 0 → length s ≤ length lent
    → read_chart (take (write_chart (read_chart s).chart lent).0.length (write_chart (read_chart s).chart lent).1) ≡ read_chart s
read_again s lent b e h =
    ap (λ (w : Writing × List ℕ). read_chart (take w.0.length w.1)) (write-back s lent b e h) ∙ ap read_chart (take-append_seam s (drop (length s) lent))
