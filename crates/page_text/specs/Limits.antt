-- How long a page and a line may be.
use Rattle.std.specs.Prelude.{ℕ}

-- The most bytes of a page: the code's `PAGE_LIMIT`.
abbrev pub page_limit : ℕ
page_limit = 65536

-- The most bytes of a line, its line feed not counted: the code's `LINE_LIMIT`.
abbrev pub line_limit : ℕ
line_limit = 1024
