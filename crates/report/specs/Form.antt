-- Document 01, "Report form, version 1": the bytes of a report. Assumes nothing.
use Rattle.std.specs.Prelude.{ℕ, zero, suc, ◌+◌, ◌*◌, ◌/◌, ◌%◌, List, [], ◌∷◌, ◌++◌, length, get_or, drop}
use Rattle.findings.specs.declared.Severity.{Severity}
use Rattle.findings.specs.declared.Finding.{Finding}
use Rattle.rules.specs.Table.{row_of}

-- the bytes of a finding, the bytes before the first finding, and the version
abbrev pub finding_size : ℕ
finding_size = 14

abbrev pub head_size : ℕ
head_size = 5

abbrev pub form_version : ℕ
form_version = 1

-- a 32-bit number, big-endian, and the bytes behind it
abbrev pub big_endian : ℕ → List ℕ → List ℕ
big_endian n rest = n / 16777216 ∷ n / 65536 % 256 ∷ n / 256 % 256 ∷ n % 256 ∷ rest

-- code, sub, three numbers
abbrev pub finding_bytes : Finding → List ℕ
finding_bytes f = f.code ∷ f.sub ∷ big_endian f.first (big_endian f.second (big_endian f.third []))

abbrev pub body_of : List Finding → List ℕ
body_of [] = []
body_of (f ∷ l) = finding_bytes f ++ body_of l

-- how many bytes follow the two of the length, with n findings
abbrev pub rest_of : ℕ → ℕ
rest_of n = 3 + finding_size * n

-- the length, the version, the flags and the number of findings
abbrev pub head_of : (flags n : ℕ) → List ℕ
head_of flags n = rest_of n / 256 ∷ rest_of n % 256 ∷ form_version ∷ flags ∷ n ∷ []

abbrev pub report_of : (flags : ℕ) → List Finding → List ℕ
report_of flags l = head_of flags (length l) ++ body_of l

-- the form has no severity: the code gives it
abbrev pub severity_for : (code : ℕ) → Severity
severity_for code = (row_of code).severity

-- the number that the four bytes from place k on are
abbrev pub number_in : List ℕ → ℕ → ℕ
number_in t k = get_or t k 0 * 16777216 + get_or t (k + 1) 0 * 65536 + get_or t (k + 2) 0 * 256 + get_or t (k + 3) 0

-- the finding that the first fourteen bytes are
abbrev pub finding_in : List ℕ → Finding
finding_in t =
    record {
      code = get_or t 0 0;
      severity = severity_for (get_or t 0 0);
      sub = get_or t 1 0;
      first = number_in t 2;
      second = number_in t 6;
      third = number_in t 10;
    }

-- the n findings that fourteen bytes each are
abbrev pub findings_in : List ℕ → ℕ → List Finding
findings_in t zero = []
findings_in t (suc n) = finding_in t ∷ findings_in (drop finding_size t) n
