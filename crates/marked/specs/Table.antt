-- The marked routes: thirteen jobs by their bytes, what they hold, and the records that routing them writes;
-- and the edges: four jobs by their bytes, and what reading them gives.
-- Specification: section 9.
--     plain_lines, plain_job         the plain job with its sizes, M, prices and nets changed
--     Row                            a job's bytes, the job, and its records net by net
--     Right                          what is claimed of a row
--     row_a .. row_l, row_n, rows    the thirteen
--     Edge                           a job's bytes, and what reading them gives
--     IsEdge                         what is claimed of an edge
--     largest_grid .. no_m, edges    the four
--     Marked                         the claim
use Rattle.std.specs.Prelude.{ℕ, zero, suc, ◌≡◌, List, [], ◌∷◌, map}
use Rattle.job.specs.Lists.{All}
use Rattle.job.specs.Grid.{Vertex}
use Rattle.job.specs.Job.{Layer, Net, Job, closed_price}
use Rattle.job.specs.Reading.{Read, refused, good, read_job}
use Rattle.rules.specs.Joins.{Record, join, none}
use Rattle.rules.specs.Routings.{Entry, routing}

-- "price of the via to the layer above": 2, and 0 on the top layer
unfoldable pub via_below : (above : ℕ) → ℕ
via_below zero = 0
via_below (suc n) = 2

-- "wire 1, via 2"
unfoldable pub plain_lines : (layers min_length area : ℕ) → List Layer
plain_lines zero min_length area = []
plain_lines (suc n) min_length area = record { wire = 1; via = via_below n; min_length = min_length; area = area } ∷ plain_lines n min_length area

-- "Plain job: 8 columns, 4 rows, two layers, direction 0, wire 1, via 2, M 3, area 50, guide 10, short 20."
unfoldable pub plain_job : (layers columns rows min_length area short : ℕ) → List Net → Job
plain_job layers columns rows min_length area short nets =
    record {
      grid = record { direction = 0; layers = layers; columns = columns; rows = rows };
      guide = 10;
      short = short;
      lines = plain_lines layers min_length area;
      obstacles = [];
      nets = nets;
    }

-- "Vertices as (layer, row, column)."
unfoldable pub pin : (layer row column : ℕ) → Vertex
pin layer row column = record { layer = layer; row = row; column = column }

pub record Row : Type 0 where
  pub bytes : List ℕ
  pub job : Job
  pub records : List Record

-- the bytes are read as the job, and routing the job writes the records
pub record Right (row : Row) : Type 0 where
  pub read : read_job row.bytes ≡ good row.job
  pub routed : map (λ (e : Entry). e.written) (routing row.job).entries ≡ row.records

-- "A (0,0,0) to (0,0,3): 3."
unfoldable pub row_a : Row
row_a = record {
  bytes = 0x11 ∷ 0x07 ∷ 0x03 ∷ 0x00 ∷ 0x0A ∷ 0x00 ∷ 0x14 ∷ 0x01 ∷ 0x00 ∷ 0x00 ∷ 0x00 ∷ 0x40 ∷ 0x23 ∷ 0x00 ∷ 0x32 ∷ 0x00 ∷ 0x40 ∷ 0x03 ∷ 0x00 ∷ 0x32 ∷ 0x10 ∷ 0x00 ∷ 0x00 ∷ 0x00 ∷ 0x00 ∷ 0x0C ∷ [];
  job = plain_job 2 8 4 3 50 20 (record { pins = pin 0 0 0 ∷ pin 0 0 3 ∷ []; boxes = [] } ∷ []);
  records = join 0 (1 ∷ 1 ∷ 1 ∷ []) 3 ∷ [];
}

-- "B (0,0,0) to (0,1,3): 10; high, high, high, up, high, down."
unfoldable pub row_b : Row
row_b = record {
  bytes = 0x11 ∷ 0x07 ∷ 0x03 ∷ 0x00 ∷ 0x0A ∷ 0x00 ∷ 0x14 ∷ 0x01 ∷ 0x00 ∷ 0x00 ∷ 0x00 ∷ 0x40 ∷ 0x23 ∷ 0x00 ∷ 0x32 ∷ 0x00 ∷ 0x40 ∷ 0x03 ∷ 0x00 ∷ 0x32 ∷ 0x10 ∷ 0x00 ∷ 0x00 ∷ 0x00 ∷ 0x04 ∷ 0x0C ∷ [];
  job = plain_job 2 8 4 3 50 20 (record { pins = pin 0 0 0 ∷ pin 0 1 3 ∷ []; boxes = [] } ∷ []);
  records = join 0 (1 ∷ 1 ∷ 1 ∷ 3 ∷ 1 ∷ 2 ∷ []) 10 ∷ [];
}

-- "C as B, 2 rows: 58."
unfoldable pub row_c : Row
row_c = record {
  bytes = 0x11 ∷ 0x07 ∷ 0x01 ∷ 0x00 ∷ 0x0A ∷ 0x00 ∷ 0x14 ∷ 0x01 ∷ 0x00 ∷ 0x00 ∷ 0x00 ∷ 0x40 ∷ 0x23 ∷ 0x00 ∷ 0x32 ∷ 0x00 ∷ 0x40 ∷ 0x03 ∷ 0x00 ∷ 0x32 ∷ 0x10 ∷ 0x00 ∷ 0x00 ∷ 0x00 ∷ 0x04 ∷ 0x0C ∷ [];
  job = plain_job 2 8 2 3 50 20 (record { pins = pin 0 0 0 ∷ pin 0 1 3 ∷ []; boxes = [] } ∷ []);
  records = join 0 (1 ∷ 1 ∷ 1 ∷ 3 ∷ 1 ∷ 2 ∷ []) 58 ∷ [];
}

-- "D as C, area closed: none."
unfoldable pub row_d : Row
row_d = record {
  bytes = 0x11 ∷ 0x07 ∷ 0x01 ∷ 0x00 ∷ 0x0A ∷ 0x00 ∷ 0x14 ∷ 0x01 ∷ 0x00 ∷ 0x00 ∷ 0x00 ∷ 0x40 ∷ 0x23 ∷ 0xFF ∷ 0xFF ∷ 0x00 ∷ 0x40 ∷ 0x03 ∷ 0xFF ∷ 0xFF ∷ 0x10 ∷ 0x00 ∷ 0x00 ∷ 0x00 ∷ 0x04 ∷ 0x0C ∷ [];
  job = plain_job 2 8 2 3 closed_price 20 (record { pins = pin 0 0 0 ∷ pin 0 1 3 ∷ []; boxes = [] } ∷ []);
  records = none ∷ [];
}

-- "E three layers, (0,0,0) to (2,0,0): 7."
unfoldable pub row_e : Row
row_e = record {
  bytes = 0x12 ∷ 0x07 ∷ 0x03 ∷ 0x00 ∷ 0x0A ∷ 0x00 ∷ 0x14 ∷ 0x01 ∷ 0x00 ∷ 0x00 ∷ 0x00 ∷ 0x40 ∷ 0x23 ∷ 0x00 ∷ 0x32 ∷ 0x00 ∷ 0x40 ∷ 0x23 ∷ 0x00 ∷ 0x32 ∷ 0x00 ∷ 0x40 ∷ 0x03 ∷ 0x00 ∷ 0x32 ∷ 0x10 ∷ 0x00 ∷ 0x00 ∷ 0x08 ∷ 0x00 ∷ 0x00 ∷ [];
  job = plain_job 3 8 4 3 50 20 (record { pins = pin 0 0 0 ∷ pin 2 0 0 ∷ []; boxes = [] } ∷ []);
  records = join 0 (3 ∷ 3 ∷ []) 7 ∷ [];
}

-- "F as E, 3 rows: 54."
unfoldable pub row_f : Row
row_f = record {
  bytes = 0x12 ∷ 0x07 ∷ 0x02 ∷ 0x00 ∷ 0x0A ∷ 0x00 ∷ 0x14 ∷ 0x01 ∷ 0x00 ∷ 0x00 ∷ 0x00 ∷ 0x40 ∷ 0x23 ∷ 0x00 ∷ 0x32 ∷ 0x00 ∷ 0x40 ∷ 0x23 ∷ 0x00 ∷ 0x32 ∷ 0x00 ∷ 0x40 ∷ 0x03 ∷ 0x00 ∷ 0x32 ∷ 0x10 ∷ 0x00 ∷ 0x00 ∷ 0x08 ∷ 0x00 ∷ 0x00 ∷ [];
  job = plain_job 3 8 3 3 50 20 (record { pins = pin 0 0 0 ∷ pin 2 0 0 ∷ []; boxes = [] } ∷ []);
  records = join 0 (3 ∷ 3 ∷ []) 54 ∷ [];
}

-- "G as F, area closed: none."
unfoldable pub row_g : Row
row_g = record {
  bytes = 0x12 ∷ 0x07 ∷ 0x02 ∷ 0x00 ∷ 0x0A ∷ 0x00 ∷ 0x14 ∷ 0x01 ∷ 0x00 ∷ 0x00 ∷ 0x00 ∷ 0x40 ∷ 0x23 ∷ 0xFF ∷ 0xFF ∷ 0x00 ∷ 0x40 ∷ 0x23 ∷ 0xFF ∷ 0xFF ∷ 0x00 ∷ 0x40 ∷ 0x03 ∷ 0xFF ∷ 0xFF ∷ 0x10 ∷ 0x00 ∷ 0x00 ∷ 0x08 ∷ 0x00 ∷ 0x00 ∷ [];
  job = plain_job 3 8 3 3 closed_price 20 (record { pins = pin 0 0 0 ∷ pin 2 0 0 ∷ []; boxes = [] } ∷ []);
  records = none ∷ [];
}

-- "H three layers, 5 rows, (0,3,3) to (2,4,3)": "7 with moves up, high, up"
unfoldable pub row_h : Row
row_h = record {
  bytes = 0x12 ∷ 0x07 ∷ 0x04 ∷ 0x00 ∷ 0x0A ∷ 0x00 ∷ 0x14 ∷ 0x01 ∷ 0x00 ∷ 0x00 ∷ 0x00 ∷ 0x40 ∷ 0x23 ∷ 0x00 ∷ 0x32 ∷ 0x00 ∷ 0x40 ∷ 0x23 ∷ 0x00 ∷ 0x32 ∷ 0x00 ∷ 0x40 ∷ 0x03 ∷ 0x00 ∷ 0x32 ∷ 0x10 ∷ 0x00 ∷ 0x60 ∷ 0x68 ∷ 0x10 ∷ 0x0C ∷ [];
  job = plain_job 3 8 5 3 50 20 (record { pins = pin 0 3 3 ∷ pin 2 4 3 ∷ []; boxes = [] } ∷ []);
  records = join 27 (3 ∷ 1 ∷ 3 ∷ []) 7 ∷ [];
}

-- "I pins (0,0,0), (0,0,3), (0,1,1): 3, then 7."
unfoldable pub row_i : Row
row_i = record {
  bytes = 0x11 ∷ 0x07 ∷ 0x03 ∷ 0x00 ∷ 0x0A ∷ 0x00 ∷ 0x14 ∷ 0x01 ∷ 0x00 ∷ 0x00 ∷ 0x00 ∷ 0x40 ∷ 0x23 ∷ 0x00 ∷ 0x32 ∷ 0x00 ∷ 0x40 ∷ 0x03 ∷ 0x00 ∷ 0x32 ∷ 0x20 ∷ 0x00 ∷ 0x00 ∷ 0x00 ∷ 0x00 ∷ 0x0C ∷ 0x00 ∷ 0x80 ∷ 0x80 ∷ [];
  job = plain_job 2 8 4 3 50 20 (record { pins = pin 0 0 0 ∷ pin 0 0 3 ∷ pin 0 1 1 ∷ []; boxes = [] } ∷ []);
  records = join 0 (1 ∷ 1 ∷ 1 ∷ []) 3 ∷ join 1 (3 ∷ 1 ∷ 2 ∷ []) 7 ∷ [];
}

-- "J as A, one box, layer 0, row 0, columns 0 to 2: 13."
unfoldable pub row_j : Row
row_j = record {
  bytes = 0x11 ∷ 0x07 ∷ 0x03 ∷ 0x00 ∷ 0x0A ∷ 0x00 ∷ 0x14 ∷ 0x01 ∷ 0x00 ∷ 0x00 ∷ 0x00 ∷ 0x40 ∷ 0x23 ∷ 0x00 ∷ 0x32 ∷ 0x00 ∷ 0x40 ∷ 0x03 ∷ 0x00 ∷ 0x32 ∷ 0x11 ∷ 0x00 ∷ 0x00 ∷ 0x00 ∷ 0x00 ∷ 0x0C ∷ 0x00 ∷ 0x00 ∷ 0x00 ∷ 0x00 ∷ 0x20 ∷ [];
  job = plain_job 2 8 4 3 50 20 (record { pins = pin 0 0 0 ∷ pin 0 0 3 ∷ []; boxes = record { layer_low = 0; layer_high = 0; row_low = 0; row_high = 0; column_low = 0; column_high = 2 } ∷ [] } ∷ []);
  records = join 0 (1 ∷ 1 ∷ 1 ∷ []) 13 ∷ [];
}

-- "K 1 column, three layers; net 1 (1,0,0), (1,2,0); net 2 (0,1,0), (2,1,0): 2, then 74."
unfoldable pub row_k : Row
row_k = record {
  bytes = 0x12 ∷ 0x00 ∷ 0x03 ∷ 0x00 ∷ 0x0A ∷ 0x00 ∷ 0x14 ∷ 0x02 ∷ 0x00 ∷ 0x00 ∷ 0x00 ∷ 0x40 ∷ 0x23 ∷ 0x00 ∷ 0x32 ∷ 0x00 ∷ 0x40 ∷ 0x23 ∷ 0x00 ∷ 0x32 ∷ 0x00 ∷ 0x40 ∷ 0x03 ∷ 0x00 ∷ 0x32 ∷ 0x10 ∷ 0x20 ∷ 0x00 ∷ 0x04 ∷ 0x08 ∷ 0x00 ∷ 0x40 ∷ 0x00 ∷ 0x80 ∷ 0x20 ∷ 0x10 ∷ 0x00 ∷ [];
  job = plain_job 3 1 4 3 50 20 (record { pins = pin 1 0 0 ∷ pin 1 2 0 ∷ []; boxes = [] } ∷ record { pins = pin 0 1 0 ∷ pin 2 1 0 ∷ []; boxes = [] } ∷ []);
  records = join 4 (1 ∷ 1 ∷ []) 2 ∷ join 1 (3 ∷ 3 ∷ []) 74 ∷ [];
}

-- "L as K, short closed: 2, then none."
unfoldable pub row_l : Row
row_l = record {
  bytes = 0x12 ∷ 0x00 ∷ 0x03 ∷ 0x00 ∷ 0x0A ∷ 0xFF ∷ 0xFF ∷ 0x02 ∷ 0x00 ∷ 0x00 ∷ 0x00 ∷ 0x40 ∷ 0x23 ∷ 0x00 ∷ 0x32 ∷ 0x00 ∷ 0x40 ∷ 0x23 ∷ 0x00 ∷ 0x32 ∷ 0x00 ∷ 0x40 ∷ 0x03 ∷ 0x00 ∷ 0x32 ∷ 0x10 ∷ 0x20 ∷ 0x00 ∷ 0x04 ∷ 0x08 ∷ 0x00 ∷ 0x40 ∷ 0x00 ∷ 0x80 ∷ 0x20 ∷ 0x10 ∷ 0x00 ∷ [];
  job = plain_job 3 1 4 3 50 closed_price (record { pins = pin 1 0 0 ∷ pin 1 2 0 ∷ []; boxes = [] } ∷ record { pins = pin 0 1 0 ∷ pin 2 1 0 ∷ []; boxes = [] } ∷ []);
  records = join 4 (1 ∷ 1 ∷ []) 2 ∷ none ∷ [];
}

-- "Route K with a box over layer 0 for net 2": 2, then 84. M is the minimum length and no row.
unfoldable pub row_n : Row
row_n = record {
  bytes = 0x12 ∷ 0x00 ∷ 0x03 ∷ 0x00 ∷ 0x0A ∷ 0x00 ∷ 0x14 ∷ 0x02 ∷ 0x00 ∷ 0x00 ∷ 0x00 ∷ 0x40 ∷ 0x23 ∷ 0x00 ∷ 0x32 ∷ 0x00 ∷ 0x40 ∷ 0x23 ∷ 0x00 ∷ 0x32 ∷ 0x00 ∷ 0x40 ∷ 0x03 ∷ 0x00 ∷ 0x32 ∷ 0x10 ∷ 0x20 ∷ 0x00 ∷ 0x04 ∷ 0x08 ∷ 0x00 ∷ 0x44 ∷ 0x00 ∷ 0x80 ∷ 0x20 ∷ 0x10 ∷ 0x00 ∷ 0x00 ∷ 0x00 ∷ 0xC0 ∷ 0x00 ∷ 0x00 ∷ [];
  job = plain_job 3 1 4 3 50 20 (record { pins = pin 1 0 0 ∷ pin 1 2 0 ∷ []; boxes = [] } ∷ record { pins = pin 0 1 0 ∷ pin 2 1 0 ∷ []; boxes = record { layer_low = 0; layer_high = 0; row_low = 0; row_high = 3; column_low = 0; column_high = 0 } ∷ [] } ∷ []);
  records = join 4 (1 ∷ 1 ∷ []) 2 ∷ join 1 (3 ∷ 3 ∷ []) 84 ∷ [];
}

-- "All twelve are marked.", and with them the thirteenth
unfoldable pub rows : List Row
rows = row_a ∷ row_b ∷ row_c ∷ row_d ∷ row_e ∷ row_f ∷ row_g ∷ row_h ∷ row_i ∷ row_j ∷ row_k ∷ row_l ∷ row_n ∷ []

pub record Edge : Type 0 where
  pub bytes : List ℕ
  pub reading : Read Job

-- reading the bytes gives that
abbrev pub IsEdge : Edge → Type 0
IsEdge edge = read_job edge.bytes ≡ edge.reading

-- "one layer of 128 by 128 passes"
unfoldable pub largest_grid : Edge
largest_grid = record {
  bytes = 0x10 ∷ 0x7F ∷ 0x7F ∷ 0x00 ∷ 0x0A ∷ 0x00 ∷ 0x14 ∷ 0x01 ∷ 0x00 ∷ 0x00 ∷ 0x00 ∷ 0x40 ∷ 0x03 ∷ 0x00 ∷ 0x32 ∷ 0x10 ∷ 0x00 ∷ 0x00 ∷ 0x00 ∷ 0x00 ∷ 0x0C ∷ [];
  reading = good (plain_job 1 128 128 3 50 20 row_a.job.nets);
}

-- "129 by 128 is refused by 4"
unfoldable pub larger_grid : Edge
larger_grid = record {
  bytes = 0x10 ∷ 0x80 ∷ 0x7F ∷ 0x00 ∷ 0x0A ∷ 0x00 ∷ 0x14 ∷ 0x01 ∷ 0x00 ∷ 0x00 ∷ 0x00 ∷ 0x40 ∷ 0x03 ∷ 0x00 ∷ 0x32 ∷ 0x10 ∷ 0x00 ∷ 0x00 ∷ 0x00 ∷ 0x00 ∷ 0x0C ∷ [];
  reading = refused 4 8;
}

-- "M 1 passes"
unfoldable pub least_m : Edge
least_m = record {
  bytes = 0x11 ∷ 0x07 ∷ 0x03 ∷ 0x00 ∷ 0x0A ∷ 0x00 ∷ 0x14 ∷ 0x01 ∷ 0x00 ∷ 0x00 ∷ 0x00 ∷ 0x40 ∷ 0x21 ∷ 0x00 ∷ 0x32 ∷ 0x00 ∷ 0x40 ∷ 0x01 ∷ 0x00 ∷ 0x32 ∷ 0x10 ∷ 0x00 ∷ 0x00 ∷ 0x00 ∷ 0x00 ∷ 0x0C ∷ [];
  reading = good (plain_job 2 8 4 1 50 20 row_a.job.nets);
}

-- "0 is refused by 5": at the first layer line's M
unfoldable pub no_m : Edge
no_m = record {
  bytes = 0x11 ∷ 0x07 ∷ 0x03 ∷ 0x00 ∷ 0x0A ∷ 0x00 ∷ 0x14 ∷ 0x01 ∷ 0x00 ∷ 0x00 ∷ 0x00 ∷ 0x40 ∷ 0x20 ∷ 0x00 ∷ 0x32 ∷ 0x00 ∷ 0x40 ∷ 0x00 ∷ 0x00 ∷ 0x32 ∷ 0x10 ∷ 0x00 ∷ 0x00 ∷ 0x00 ∷ 0x00 ∷ 0x0C ∷ [];
  reading = refused 5 100;
}

-- "Edges", each with A's net
unfoldable pub edges : List Edge
edges = largest_grid ∷ larger_grid ∷ least_m ∷ no_m ∷ []

-- every row is right, and every edge is read as it says
pub record Marked : Type 0 where
  pub routes : All Right rows
  pub edges : All IsEdge edges
