-- Made by tools/text_table, and trusted for nothing: where the forms of the reader's states are found, and the rows of each state.
use mathlib.Core.List.{List, [], ◌∷◌}
use Rattle.forms.specs.Table.{Found, found, Entry, row, entry}

unfoldable pub founds : List Found
founds = found 0 73 ∷ found 1 78 ∷ found 2 73 ∷ found 3 84 ∷ found 4 73 ∷ found 5 65 ∷ found 6 76 ∷ found 7 95 ∷ found 8 83 ∷ found 9 84 ∷ found 10 69 ∷ found 11 80 ∷ found 12 9 ∷ found 13 83 ∷ found 14 48 ∷ found 14 49 ∷ found 14 54 ∷ found 15 58 ∷ found 18 65 ∷ found 18 69 ∷ found 19 48 ∷ found 19 49 ∷ found 19 51 ∷ found 20 78 ∷ found 21 40 ∷ found 24 68 ∷ found 25 9 ∷ found 25 41 ∷ found 25 68 ∷ found 25 76 ∷ found 25 78 ∷ found 25 80 ∷ found 25 83 ∷ found 26 95 ∷ found 29 44 ∷ found 34 83 ∷ found 35 84 ∷ found 36 84 ∷ found 37 35 ∷ found 37 73 ∷ found 38 69 ∷ found 39 48 ∷ found 39 49 ∷ found 40 77 ∷ found 41 80 ∷ found 42 77 ∷ found 44 69 ∷ found 45 9 ∷ found 48 84 ∷ found 49 82 ∷ found 50 65 ∷ found 51 78 ∷ found 52 83 ∷ found 53 73 ∷ found 54 84 ∷ found 55 73 ∷ found 56 79 ∷ found 57 78 ∷ found 58 9 ∷ found 59 70 ∷ found 60 82 ∷ found 61 79 ∷ found 62 77 ∷ found 63 9 ∷ found 63 40 ∷ found 64 83 ∷ found 65 83 ∷ found 66 48 ∷ found 66 49 ∷ found 66 54 ∷ found 67 48 ∷ found 67 49 ∷ found 67 54 ∷ found 68 9 ∷ found 71 44 ∷ found 74 84 ∷ found 75 83 ∷ found 76 79 ∷ found 77 48 ∷ found 77 49 ∷ found 77 54 ∷ found 78 9 ∷ found 78 40 ∷ found 82 83 ∷ found 83 83 ∷ found 84 48 ∷ found 84 49 ∷ found 84 54 ∷ found 85 48 ∷ found 85 49 ∷ found 85 54 ∷ found 86 58 ∷ found 89 44 ∷ found 92 61 ∷ found 93 83 ∷ found 94 78 ∷ found 94 84 ∷ found 94 88 ∷ found 95 48 ∷ found 95 49 ∷ found 95 54 ∷ found 96 79 ∷ found 97 82 ∷ found 98 48 ∷ found 98 49 ∷ found 98 51 ∷ found 102 84 ∷ found 103 85 ∷ found 104 9 ∷ found 104 59 ∷ found 107 9 ∷ found 108 69 ∷ found 109 65 ∷ found 110 69 ∷ found 113 78 ∷ found 114 78 ∷ found 115 68 ∷ found 116 68 ∷ found 117 9 ∷ found 118 95 ∷ found 120 84 ∷ found 121 82 ∷ found 122 65 ∷ found 123 78 ∷ found 124 83 ∷ found 125 73 ∷ found 126 84 ∷ found 127 73 ∷ found 128 79 ∷ found 129 78 ∷ found 130 9 ∷ []

unfoldable pub entries : List Entry
entries =
    entry 0 (row 9 13 0 0 ∷ row 32 32 0 0 ∷ row 73 73 7 142 ∷ []) ∷
    entry 2 (row 73 73 0 2 ∷ []) ∷
    entry 3 (row 84 84 0 3 ∷ []) ∷
    entry 4 (row 73 73 0 4 ∷ []) ∷
    entry 5 (row 65 65 0 5 ∷ []) ∷
    entry 6 (row 76 76 0 6 ∷ []) ∷
    entry 7 (row 95 95 0 7 ∷ []) ∷
    entry 8 (row 83 83 0 8 ∷ []) ∷
    entry 9 (row 84 84 0 9 ∷ []) ∷
    entry 10 (row 69 69 0 10 ∷ []) ∷
    entry 11 (row 80 80 0 11 ∷ []) ∷
    entry 12 (row 9 13 0 12 ∷ row 32 32 0 12 ∷ []) ∷
    entry 13 (row 9 13 0 12 ∷ row 32 32 0 12 ∷ row 83 83 9 144 ∷ []) ∷
    entry 15 (row 9 13 0 13 ∷ row 32 32 0 13 ∷ row 58 58 12 147 ∷ []) ∷
    entry 18 (row 9 13 0 14 ∷ row 32 32 0 14 ∷ row 65 65 0 15 ∷ row 69 69 0 16 ∷ []) ∷
    entry 19 (row 48 48 1 98 ∷ row 49 50 1 99 ∷ row 51 51 1 100 ∷ row 52 57 1 98 ∷ []) ∷
    entry 20 (row 78 78 0 17 ∷ []) ∷
    entry 24 (row 68 68 0 19 ∷ []) ∷
    entry 21 (row 9 13 0 18 ∷ row 32 32 0 18 ∷ row 40 40 10 145 ∷ []) ∷
    entry 26 (row 95 95 0 22 ∷ []) ∷
    entry 27 (row 9 13 0 20 ∷ row 32 32 0 20 ∷ row 41 41 0 21 ∷ row 68 68 20 154 ∷ row 76 76 19 153 ∷ row 78 78 16 150 ∷ row 80 80 21 155 ∷ row 82 82 17 151 ∷ row 83 83 18 152 ∷ []) ∷
    entry 28 (row 9 13 0 21 ∷ row 32 32 0 21 ∷ row 59 59 13 148 ∷ []) ∷
    entry 34 (row 83 83 0 26 ∷ []) ∷
    entry 30 (row 9 13 0 23 ∷ row 32 32 0 23 ∷ row 44 44 0 24 ∷ []) ∷
    entry 35 (row 9 13 0 24 ∷ row 32 32 0 24 ∷ row 84 84 0 27 ∷ []) ∷
    entry 31 (row 9 13 0 25 ∷ row 32 32 0 25 ∷ row 41 41 0 21 ∷ []) ∷
    entry 36 (row 84 84 0 28 ∷ []) ∷
    entry 37 (row 35 35 0 29 ∷ row 73 73 0 30 ∷ []) ∷
    entry 38 (row 69 69 0 31 ∷ []) ∷
    entry 39 (row 48 48 1 101 ∷ row 49 57 1 102 ∷ []) ∷
    entry 40 (row 77 77 0 32 ∷ []) ∷
    entry 41 (row 80 80 0 33 ∷ []) ∷
    entry 44 (row 69 69 0 35 ∷ []) ∷
    entry 45 (row 9 13 0 36 ∷ row 32 32 0 36 ∷ []) ∷
    entry 46 (row 83 83 0 25 ∷ row 115 115 0 25 ∷ []) ∷
    entry 47 (row 35 35 0 29 ∷ []) ∷
    entry 48 (row 9 13 0 36 ∷ row 32 32 0 36 ∷ row 73 73 7 142 ∷ row 83 83 8 143 ∷ row 84 84 11 146 ∷ []) ∷
    entry 50 (row 65 65 0 38 ∷ []) ∷
    entry 51 (row 78 78 0 39 ∷ []) ∷
    entry 52 (row 83 83 0 40 ∷ []) ∷
    entry 53 (row 73 73 0 41 ∷ []) ∷
    entry 54 (row 84 84 0 42 ∷ []) ∷
    entry 55 (row 73 73 0 43 ∷ []) ∷
    entry 56 (row 79 79 0 44 ∷ []) ∷
    entry 57 (row 78 78 0 45 ∷ []) ∷
    entry 58 (row 9 13 0 46 ∷ row 32 32 0 46 ∷ []) ∷
    entry 59 (row 9 13 0 46 ∷ row 32 32 0 46 ∷ row 70 70 0 47 ∷ []) ∷
    entry 60 (row 82 82 0 48 ∷ []) ∷
    entry 61 (row 79 79 0 49 ∷ []) ∷
    entry 62 (row 77 77 0 50 ∷ []) ∷
    entry 63 (row 9 13 0 51 ∷ row 32 32 0 51 ∷ row 40 40 0 52 ∷ []) ∷
    entry 64 (row 9 13 0 51 ∷ row 32 32 0 51 ∷ row 40 40 0 52 ∷ row 83 83 3 134 ∷ []) ∷
    entry 65 (row 9 13 0 52 ∷ row 32 32 0 52 ∷ row 83 83 3 135 ∷ []) ∷
    entry 74 (row 9 13 0 53 ∷ row 32 32 0 53 ∷ row 84 84 0 56 ∷ []) ∷
    entry 71 (row 9 13 0 54 ∷ row 32 32 0 54 ∷ row 44 44 0 55 ∷ []) ∷
    entry 75 (row 9 13 0 55 ∷ row 32 32 0 55 ∷ row 83 83 3 136 ∷ []) ∷
    entry 76 (row 79 79 0 57 ∷ []) ∷
    entry 78 (row 9 13 0 58 ∷ row 32 32 0 58 ∷ row 40 40 0 59 ∷ []) ∷
    entry 82 (row 9 13 0 58 ∷ row 32 32 0 58 ∷ row 40 40 0 59 ∷ row 83 83 4 137 ∷ []) ∷
    entry 83 (row 9 13 0 59 ∷ row 32 32 0 59 ∷ row 83 83 4 138 ∷ []) ∷
    entry 79 (row 9 13 0 60 ∷ row 32 32 0 60 ∷ row 41 41 0 53 ∷ row 44 44 0 55 ∷ []) ∷
    entry 86 (row 9 13 0 61 ∷ row 32 32 0 61 ∷ row 58 58 0 62 ∷ []) ∷
    entry 92 (row 61 61 0 65 ∷ []) ∷
    entry 89 (row 9 13 0 63 ∷ row 32 32 0 63 ∷ row 44 44 0 64 ∷ []) ∷
    entry 93 (row 9 13 0 64 ∷ row 32 32 0 64 ∷ row 83 83 4 139 ∷ []) ∷
    entry 94 (row 9 13 0 65 ∷ row 32 32 0 65 ∷ row 78 78 0 66 ∷ row 84 84 0 67 ∷ row 88 88 5 140 ∷ []) ∷
    entry 96 (row 79 79 0 68 ∷ []) ∷
    entry 97 (row 82 82 0 69 ∷ []) ∷
    entry 102 (row 84 84 0 71 ∷ []) ∷
    entry 103 (row 85 85 0 72 ∷ []) ∷
    entry 99 (row 9 13 0 70 ∷ row 32 32 0 70 ∷ row 41 41 0 61 ∷ row 44 44 0 64 ∷ []) ∷
    entry 107 (row 9 13 0 75 ∷ row 32 32 0 75 ∷ []) ∷
    entry 108 (row 69 69 0 76 ∷ []) ∷
    entry 109 (row 9 13 0 73 ∷ row 32 32 0 73 ∷ row 59 59 0 74 ∷ row 65 65 0 77 ∷ []) ∷
    entry 110 (row 9 13 0 74 ∷ row 32 32 0 74 ∷ row 69 69 14 149 ∷ []) ∷
    entry 111 (row 9 13 0 75 ∷ row 32 32 0 75 ∷ row 88 88 6 141 ∷ []) ∷
    entry 112 (row 9 13 0 76 ∷ row 32 32 0 76 ∷ row 59 59 0 74 ∷ []) ∷
    entry 113 (row 78 78 0 78 ∷ []) ∷
    entry 115 (row 68 68 0 80 ∷ []) ∷
    entry 116 (row 68 68 0 81 ∷ []) ∷
    entry 117 (row 9 13 0 82 ∷ row 32 32 0 82 ∷ []) ∷
    entry 118 (row 95 95 0 83 ∷ []) ∷
    entry 119 (row 9 13 0 82 ∷ row 32 32 0 82 ∷ row 78 78 0 66 ∷ row 88 88 5 140 ∷ []) ∷
    entry 120 (row 84 84 0 84 ∷ []) ∷
    entry 121 (row 82 82 0 85 ∷ []) ∷
    entry 122 (row 65 65 0 86 ∷ []) ∷
    entry 123 (row 78 78 0 87 ∷ []) ∷
    entry 124 (row 83 83 0 88 ∷ []) ∷
    entry 125 (row 73 73 0 89 ∷ []) ∷
    entry 126 (row 84 84 0 90 ∷ []) ∷
    entry 127 (row 73 73 0 91 ∷ []) ∷
    entry 128 (row 79 79 0 92 ∷ []) ∷
    entry 129 (row 78 78 0 93 ∷ []) ∷
    entry 130 (row 9 13 0 94 ∷ row 32 32 0 94 ∷ []) ∷
    entry 131 (row 9 13 0 94 ∷ row 32 32 0 94 ∷ row 84 84 11 146 ∷ []) ∷
    entry 15 (row 9 13 0 13 ∷ row 32 32 0 13 ∷ row 58 58 12 147 ∷ []) ∷
    entry 16 (row 9 13 0 13 ∷ row 32 32 0 13 ∷ row 48 57 2 124 ∷ row 58 58 12 147 ∷ []) ∷
    entry 17 (row 9 13 0 13 ∷ row 32 32 0 13 ∷ row 48 51 2 124 ∷ row 58 58 12 147 ∷ []) ∷
    entry 21 (row 9 13 0 18 ∷ row 32 32 0 18 ∷ row 40 40 10 145 ∷ []) ∷
    entry 22 (row 9 13 0 18 ∷ row 32 32 0 18 ∷ row 40 40 10 145 ∷ row 48 57 2 125 ∷ []) ∷
    entry 23 (row 9 13 0 18 ∷ row 32 32 0 18 ∷ row 40 40 10 145 ∷ row 48 49 2 125 ∷ []) ∷
    entry 42 (row 77 77 0 34 ∷ row 109 109 0 34 ∷ []) ∷
    entry 43 (row 48 57 2 126 ∷ row 77 77 0 34 ∷ row 109 109 0 34 ∷ []) ∷
    entry 68 (row 9 13 0 53 ∷ row 32 32 0 53 ∷ []) ∷
    entry 69 (row 9 13 0 53 ∷ row 32 32 0 53 ∷ row 48 57 2 127 ∷ []) ∷
    entry 70 (row 9 13 0 53 ∷ row 32 32 0 53 ∷ row 48 51 2 127 ∷ []) ∷
    entry 71 (row 9 13 0 54 ∷ row 32 32 0 54 ∷ row 44 44 0 55 ∷ []) ∷
    entry 72 (row 9 13 0 54 ∷ row 32 32 0 54 ∷ row 44 44 0 55 ∷ row 48 57 2 128 ∷ []) ∷
    entry 73 (row 9 13 0 54 ∷ row 32 32 0 54 ∷ row 44 44 0 55 ∷ row 48 51 2 128 ∷ []) ∷
    entry 79 (row 9 13 0 60 ∷ row 32 32 0 60 ∷ row 41 41 0 53 ∷ row 44 44 0 55 ∷ []) ∷
    entry 80 (row 9 13 0 60 ∷ row 32 32 0 60 ∷ row 41 41 0 53 ∷ row 44 44 0 55 ∷ row 48 57 2 129 ∷ []) ∷
    entry 81 (row 9 13 0 60 ∷ row 32 32 0 60 ∷ row 41 41 0 53 ∷ row 44 44 0 55 ∷ row 48 51 2 129 ∷ []) ∷
    entry 86 (row 9 13 0 61 ∷ row 32 32 0 61 ∷ row 58 58 0 62 ∷ []) ∷
    entry 87 (row 9 13 0 61 ∷ row 32 32 0 61 ∷ row 48 57 2 130 ∷ row 58 58 0 62 ∷ []) ∷
    entry 88 (row 9 13 0 61 ∷ row 32 32 0 61 ∷ row 48 51 2 130 ∷ row 58 58 0 62 ∷ []) ∷
    entry 89 (row 9 13 0 63 ∷ row 32 32 0 63 ∷ row 44 44 0 64 ∷ []) ∷
    entry 90 (row 9 13 0 63 ∷ row 32 32 0 63 ∷ row 44 44 0 64 ∷ row 48 57 2 131 ∷ []) ∷
    entry 91 (row 9 13 0 63 ∷ row 32 32 0 63 ∷ row 44 44 0 64 ∷ row 48 51 2 131 ∷ []) ∷
    entry 99 (row 9 13 0 70 ∷ row 32 32 0 70 ∷ row 41 41 0 61 ∷ row 44 44 0 64 ∷ []) ∷
    entry 100 (row 9 13 0 70 ∷ row 32 32 0 70 ∷ row 41 41 0 61 ∷ row 44 44 0 64 ∷ row 48 57 2 132 ∷ []) ∷
    entry 101 (row 9 13 0 70 ∷ row 32 32 0 70 ∷ row 41 41 0 61 ∷ row 44 44 0 64 ∷ row 48 51 2 132 ∷ []) ∷
    entry 104 (row 9 13 0 73 ∷ row 32 32 0 73 ∷ row 59 59 0 74 ∷ []) ∷
    entry 105 (row 9 13 0 73 ∷ row 32 32 0 73 ∷ row 48 57 2 133 ∷ row 59 59 0 74 ∷ []) ∷
    entry 106 (row 9 13 0 73 ∷ row 32 32 0 73 ∷ row 48 49 2 133 ∷ row 59 59 0 74 ∷ []) ∷
    entry 15 (row 9 13 0 13 ∷ row 32 32 0 13 ∷ row 58 58 12 147 ∷ []) ∷
    entry 21 (row 9 13 0 18 ∷ row 32 32 0 18 ∷ row 40 40 10 145 ∷ []) ∷
    entry 43 (row 48 57 2 126 ∷ row 77 77 0 34 ∷ row 109 109 0 34 ∷ []) ∷
    entry 68 (row 9 13 0 53 ∷ row 32 32 0 53 ∷ []) ∷
    entry 71 (row 9 13 0 54 ∷ row 32 32 0 54 ∷ row 44 44 0 55 ∷ []) ∷
    entry 79 (row 9 13 0 60 ∷ row 32 32 0 60 ∷ row 41 41 0 53 ∷ row 44 44 0 55 ∷ []) ∷
    entry 86 (row 9 13 0 61 ∷ row 32 32 0 61 ∷ row 58 58 0 62 ∷ []) ∷
    entry 89 (row 9 13 0 63 ∷ row 32 32 0 63 ∷ row 44 44 0 64 ∷ []) ∷
    entry 99 (row 9 13 0 70 ∷ row 32 32 0 70 ∷ row 41 41 0 61 ∷ row 44 44 0 64 ∷ []) ∷
    entry 104 (row 9 13 0 73 ∷ row 32 32 0 73 ∷ row 59 59 0 74 ∷ []) ∷
    entry 66 (row 48 48 1 103 ∷ row 49 53 1 104 ∷ row 54 54 1 105 ∷ row 55 57 1 103 ∷ []) ∷
    entry 67 (row 48 48 1 106 ∷ row 49 53 1 107 ∷ row 54 54 1 108 ∷ row 55 57 1 106 ∷ []) ∷
    entry 77 (row 48 48 1 109 ∷ row 49 53 1 110 ∷ row 54 54 1 111 ∷ row 55 57 1 109 ∷ []) ∷
    entry 84 (row 48 48 1 112 ∷ row 49 53 1 113 ∷ row 54 54 1 114 ∷ row 55 57 1 112 ∷ []) ∷
    entry 85 (row 48 48 1 115 ∷ row 49 53 1 116 ∷ row 54 54 1 117 ∷ row 55 57 1 115 ∷ []) ∷
    entry 95 (row 48 48 1 118 ∷ row 49 53 1 119 ∷ row 54 54 1 120 ∷ row 55 57 1 118 ∷ []) ∷
    entry 98 (row 48 48 1 121 ∷ row 49 50 1 122 ∷ row 51 51 1 123 ∷ row 52 57 1 121 ∷ []) ∷
    entry 98 (row 48 48 1 121 ∷ row 49 50 1 122 ∷ row 51 51 1 123 ∷ row 52 57 1 121 ∷ []) ∷
    entry 1 (row 78 78 0 1 ∷ []) ∷
    entry 9 (row 84 84 0 9 ∷ []) ∷
    entry 14 (row 48 48 1 95 ∷ row 49 53 1 96 ∷ row 54 54 1 97 ∷ row 55 57 1 95 ∷ []) ∷
    entry 25 (row 9 13 0 20 ∷ row 32 32 0 20 ∷ row 41 41 0 21 ∷ row 68 68 20 154 ∷ row 76 76 19 153 ∷ row 78 78 16 150 ∷ row 80 80 21 155 ∷ row 82 82 17 151 ∷ row 83 83 18 152 ∷ []) ∷
    entry 49 (row 82 82 0 37 ∷ []) ∷
    entry 18 (row 9 13 0 14 ∷ row 32 32 0 14 ∷ row 65 65 0 15 ∷ row 69 69 0 16 ∷ []) ∷
    entry 18 (row 9 13 0 14 ∷ row 32 32 0 14 ∷ row 65 65 0 15 ∷ row 69 69 0 16 ∷ []) ∷
    entry 114 (row 78 78 0 79 ∷ []) ∷
    entry 31 (row 9 13 0 25 ∷ row 32 32 0 25 ∷ row 41 41 0 21 ∷ []) ∷
    entry 31 (row 9 13 0 25 ∷ row 32 32 0 25 ∷ row 41 41 0 21 ∷ []) ∷
    entry 33 (row 9 13 0 25 ∷ row 32 32 0 25 ∷ row 41 41 0 21 ∷ row 68 68 22 156 ∷ row 76 76 24 158 ∷ []) ∷
    entry 30 (row 9 13 0 23 ∷ row 32 32 0 23 ∷ row 44 44 0 24 ∷ []) ∷
    entry 29 (row 9 13 0 23 ∷ row 32 32 0 23 ∷ row 44 44 0 24 ∷ row 83 83 23 157 ∷ []) ∷
    entry 32 (row 9 13 0 25 ∷ row 32 32 0 25 ∷ row 41 41 0 21 ∷ row 48 48 26 160 ∷ row 49 49 25 159 ∷ []) ∷
    entry 30 (row 9 13 0 23 ∷ row 32 32 0 23 ∷ row 44 44 0 24 ∷ []) ∷
    entry 30 (row 9 13 0 23 ∷ row 32 32 0 23 ∷ row 44 44 0 24 ∷ []) ∷
    entry 30 (row 9 13 0 23 ∷ row 32 32 0 23 ∷ row 44 44 0 24 ∷ []) ∷
    entry 31 (row 9 13 0 25 ∷ row 32 32 0 25 ∷ row 41 41 0 21 ∷ []) ∷
    entry 31 (row 9 13 0 25 ∷ row 32 32 0 25 ∷ row 41 41 0 21 ∷ []) ∷
    []
