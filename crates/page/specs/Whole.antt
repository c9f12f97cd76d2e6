-- The whole page, from the bytes of a chart's file and of the text of the weights.
use Rattle.std.specs.Prelude.{ℕ, cond, List, length, take, eqb, leb}
use Rattle.lines.specs.Lines.{chart_line}
use Rattle.weights.specs.Listing.{fault_in, weights_in}
use Rattle.reader.specs.Reading.{read_chart}
use Rattle.chart.specs.Initial.{initial_set}
use Rattle.tally.specs.Weighing.{weigh_of}
use Rattle.page.specs.Page.{too_long, fault_line, page_for, page_line}
use Rattle.page.specs.Answer.{Heard}

-- the chart's refusal, that of the text, of a line of it, or the page of its weights
abbrev pub page_of : List ℕ → List ℕ → List ℕ
page_of file input =
    cond (eqb (read_chart file).code 0)
    (cond (leb 65536 (length input)) too_long
    (cond (eqb (fault_in input) 0) (page_for (read_chart file).chart (weights_in input)) (fault_line (fault_in input))))
    (chart_line (read_chart file).code)

-- ---- what the program hears, and the page from it, line by line

-- as many weights as it has room for: one more than any chart has steps
abbrev pub heard_weights : List ℕ → List ℕ
heard_weights input = take 65 (weights_in input)

abbrev pub heard_of : List ℕ → List ℕ → Heard
heard_of file input = record {
  code = (read_chart file).code;
  length = length input;
  fault = fault_in input;
  weighed = weigh_of (read_chart file).chart (heard_weights input);
}

abbrev pub line_of : List ℕ → List ℕ → ℕ → List ℕ
line_of file input k =
    let c = (read_chart file).chart in
    page_line (heard_of file input) c.transitions c.sources c.targets (initial_set c.steps c.initial) (heard_weights input) k
