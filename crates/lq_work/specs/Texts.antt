-- The texts of the workloads, line by line (docs/COMMANDS.md, "Workloads").
use Rattle.std.specs.Prelude.{ℕ, List, [], ◌∷◌, ◌++◌, codes}
use Rattle.std.specs.List.{flat_map}

-- each line ends with a line feed
abbrev pub text_of : List (List ℕ) → List ℕ
text_of lines = flat_map (λ line. line ++ 10 ∷ []) lines

-- a parallel merge sort of the input, and a test of what comes of it
unfoldable pub sort_source : List ℕ
sort_source =
    text_of
    (codes "void merge(int *a, int *t, int lo, int mid, int hi) {"
    ∷ codes "  int i = lo;"
    ∷ codes "  int j = mid;"
    ∷ codes "  int k = lo;"
    ∷ codes "  while (k < hi) {"
    ∷ codes "    if (i < mid && j < hi) {"
    ∷ codes "      int x = a[i];"
    ∷ codes "      int y = a[j];"
    ∷ codes "      if (x <= y) { t[k] = x; i = i + 1; } else { t[k] = y; j = j + 1; }"
    ∷ codes "    } else if (i < mid) {"
    ∷ codes "      t[k] = a[i];"
    ∷ codes "      i = i + 1;"
    ∷ codes "    } else if (j < hi) {"
    ∷ codes "      t[k] = a[j];"
    ∷ codes "      j = j + 1;"
    ∷ codes "    }"
    ∷ codes "    k = k + 1;"
    ∷ codes "  }"
    ∷ codes "  for (k = lo; k < hi; k = k + 1) { a[k] = t[k]; }"
    ∷ codes "}"
    ∷ codes "void sort(int *a, int *t, int lo, int hi) {"
    ∷ codes "  if (hi - lo < 2) { return; }"
    ∷ codes "  int mid = lo + (hi - lo) / 2;"
    ∷ codes "  cobegin {"
    ∷ codes "    { sort(a, t, lo, mid); }"
    ∷ codes "    { sort(a, t, mid, hi); }"
    ∷ codes "  }"
    ∷ codes "  merge(a, t, lo, mid, hi);"
    ∷ codes "}"
    ∷ codes "int main(int *in, int n) {"
    ∷ codes "  if (n < 1) { return 0; }"
    ∷ codes "  int *t = calloc(n, sizeof(int));"
    ∷ codes "  sort(in, t, 0, n);"
    ∷ codes "  int bad = 0;"
    ∷ codes "  int sum = in[0];"
    ∷ codes "  for (int p = 1; p < n; p = p + 1) {"
    ∷ codes "    int u = in[p - 1];"
    ∷ codes "    int v = in[p];"
    ∷ codes "    if (v < u) { bad = bad + 1; }"
    ∷ codes "    sum = sum + v;"
    ∷ codes "  }"
    ∷ codes "  print(in[0]);"
    ∷ codes "  print(bad);"
    ∷ codes "  print(sum);"
    ∷ codes "  return 0;"
    ∷ codes "}"
    ∷ [])

-- what the checker needs to accept it
unfoldable pub sort_quals : List ℕ
sort_quals =
    text_of
    (codes "0 <= lo"
    ∷ codes "0 <= mid"
    ∷ codes "lo <= mid"
    ∷ codes "mid <= hi"
    ∷ codes "lo <= i"
    ∷ codes "mid <= j"
    ∷ codes "lo <= k"
    ∷ codes "1 <= p"
    ∷ codes "off(a) + hi <= len(a)"
    ∷ codes "off(t) + hi <= len(t)"
    ∷ codes "off(a) + lo <= @"
    ∷ codes "@ < off(a) + hi"
    ∷ codes "off(a) + mid <= @"
    ∷ codes "@ < off(a) + mid"
    ∷ codes "off(t) + lo <= @"
    ∷ codes "@ < off(t) + hi"
    ∷ codes "off(t) + mid <= @"
    ∷ codes "@ < off(t) + mid"
    ∷ [])

-- each iteration reads one number of the input, and writes four elements
unfoldable pub stride_source : List ℕ
stride_source =
    text_of
    (codes "int main(int *in, int n) {"
    ∷ codes "  if (n < 1) { return 0; }"
    ∷ codes "  int *a = calloc(4 * n, sizeof(int));"
    ∷ codes "  foreach (i, 0, n) {"
    ∷ codes "    int j = 0;"
    ∷ codes "    while (j < 4) { a[4 * i + j] = in[i] + j; j = j + 1; }"
    ∷ codes "  }"
    ∷ codes "  print(a[0]);"
    ∷ codes "  print(a[4 * n - 1]);"
    ∷ codes "  return 0;"
    ∷ codes "}"
    ∷ [])

-- what the checker needs to accept it
unfoldable pub stride_quals : List ℕ
stride_quals =
    text_of
    (codes "0 <= j"
    ∷ codes "4*i <= @"
    ∷ codes "@ < 4*i + 4"
    ∷ [])
